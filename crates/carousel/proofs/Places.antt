-- Each of the eight tools has its station.
use Rattle.std.specs.Prelude.{◌≡◌, ℕ, ◌<◌, ◌==◌, true, List, [], ◌∷◌, length, nat_lt, refl, position}
use Rattle.std.specs.List.{list_any, IsDistinct}
use Rattle.std.proofs.Common.{eqb, arith, ◌∙◌, sym, inl, inr}
use Rattle.std.proofs.lemmas.Bool.{cases_Bool, cases_lt}
use Rattle.std.proofs.lemmas.Bool.Decides.{nat_tests}
use Rattle.std.proofs.lemmas.Map.Steps.{length-le_from_distinct_below}
use Rattle.carousel.specs.Stations.{holds, all_tools, none_twice, is_carousel, station, found}
use Rattle.carousel.specs.Tools.{lacks, distinct_tools}

holds_is : (xs : List ℕ) (t : ℕ) → holds xs t ≡ list_any (eqb t) xs
holds_is [] t = refl
holds_is (x ∷ xs) t = let r = holds_is xs t in grind (arith, nat_tests)

-- what is held is a tool
tool_held : (xs : List ℕ) (t : ℕ) → all_tools xs ≡ true → list_any (eqb t) xs ≡ true → t < 8
tool_held [] t a h = absurd cc
tool_held (x ∷ xs) t a h = let r = tool_held xs t in grind (arith, nat_tests)

pub held_tool : (xs : List ℕ) (t : ℕ) → all_tools xs ≡ true → holds xs t ≡ true → t < 8
held_tool xs t a h = tool_held xs t a (sym (holds_is xs t) ∙ h)

-- and each of the eight tools is held, since nine numbers below 8 do not all differ
held_where : (xs : List ℕ) (t : ℕ) → is_carousel xs ≡ true → holds xs t ≡ nat_lt t 8
unfolding IsDistinct
held_where xs t h =
    let a : all_tools xs ≡ true = grind (arith, nat_tests) in
    elim (cases_Bool (holds xs t)) [
      | inl e ↦ let l = held_tool xs t a e in grind (arith, nat_tests)
      | inr e ↦
          elim (cases_lt t 8) [
            | inl l ↦
                let n : length xs ≡ 8 = grind (arith, nat_tests) in
                let d = distinct_tools xs (grind (arith, nat_tests)) in
                let m = length-le_from_distinct_below (t ∷ xs) 8 (lacks xs t e, d) (λ q. tool_held (t ∷ xs) q (grind (arith, nat_tests))) in
                absurd (omega arith)
            | inr l ↦ grind (arith, nat_tests)
          ]
    ]

pub stands : (xs : List ℕ) (t : ℕ) → length xs ≡ 8 → all_tools xs ≡ true → none_twice xs ≡ true → t < 8 → holds xs t ≡ true
stands xs t n a o l = let h = held_where xs t (grind (arith, nat_tests)) in grind (arith, nat_tests)

station_lt : (xs : List ℕ) (t : ℕ) → nat_lt (station xs t) (length xs) ≡ holds xs t
station_lt [] t = refl
station_lt (x ∷ xs) t = let r = station_lt xs t in grind (arith, nat_tests)

-- a tool is first met at its station
pub position_of_tool : (xs : List ℕ) (t : ℕ) → is_carousel xs ≡ true → position (λ x. x == t) xs ≡ found xs t
position_of_tool xs t h = simp (station_lt xs t, held_where xs t h)
