-- An exchange keeps a carousel one.
use Rattle.std.specs.Prelude.{◌≡◌, ℕ, ◌<◌, true, false, not, List, [], ◌∷◌, length, nat_lt, slice_index, slice_set, refl}
use Rattle.std.specs.List.{list_any, IsDistinct, AllByRecursion}
use Rattle.std.specs.List.Sorted.{IsPermutation}
use Rattle.std.proofs.Common.{eqb, arith, inl, inr}
use Rattle.std.proofs.lemmas.Bool.{cases_Bool, cases_lt}
use Rattle.std.proofs.lemmas.List.{length-set}
use Rattle.std.proofs.lemmas.Bool.Decides.{nat_tests}
use Rattle.std.proofs.lemmas.List.Edits.{swap_is}
use Rattle.std.proofs.lemmas.List.Sorted.{IsPermutation-swap, list_any-IsPermutation, length_permutation}
use Rattle.std.proofs.lemmas.Map.Keys.{IsDistinct-IsPermutation}
use Rattle.carousel.specs.declared.CarouselRow.{CarouselRow}
use Rattle.carousel.specs.Stations.{holds, all_tools, none_twice, is_carousel, straight, exchanged}
use Rattle.carousel.specs.Served.{mean}

-- none twice is std's word for keys that differ
pub lacks : (xs : List ℕ) (t : ℕ) → holds xs t ≡ false → AllByRecursion (λ x. eqb t x ≡ false) xs
lacks [] t h = tt
lacks (x ∷ xs) t h = (grind (arith, nat_tests), lacks xs t (grind (arith, nat_tests)))

not_held : (xs : List ℕ) (t : ℕ) → AllByRecursion (λ x. eqb t x ≡ false) xs → holds xs t ≡ false
not_held [] t h = refl
not_held (x ∷ xs) t h = let a = h.0 in let r = not_held xs t h.1 in grind (arith, nat_tests)

pub distinct_tools : (xs : List ℕ) → none_twice xs ≡ true → IsDistinct eqb xs
unfolding IsDistinct
distinct_tools [] h = tt
distinct_tools (x ∷ xs) h = (lacks xs x (grind (arith, nat_tests)), distinct_tools xs (grind (arith, nat_tests)))

none_twice_of : (xs : List ℕ) → IsDistinct eqb xs → none_twice xs ≡ true
unfolding IsDistinct
none_twice_of [] h = refl
none_twice_of (x ∷ xs) h = let a = not_held xs x h.0 in let r = none_twice_of xs h.1 in grind (arith, nat_tests)

-- all stations hold tools where none holds anything else
all_tools_is : (xs : List ℕ) → all_tools xs ≡ not (list_any (λ x. not (nat_lt x 8)) xs)
all_tools_is [] = refl
all_tools_is (x ∷ xs) = let r = all_tools_is xs in grind (arith, nat_tests)

-- the order of the stations is nothing to a carousel
tools_in_any_order : (xs ys : List ℕ) → IsPermutation xs ys → all_tools xs ≡ true → all_tools ys ≡ true
tools_in_any_order xs ys p h =
    let a = all_tools_is xs in
    let b = all_tools_is ys in
    let e = list_any-IsPermutation (λ x. not (nat_lt x 8)) xs ys p in
    grind (arith, nat_tests)

once_in_any_order : (xs ys : List ℕ) → IsPermutation xs ys → none_twice xs ≡ true → none_twice ys ≡ true
once_in_any_order xs ys p h = none_twice_of ys (IsDistinct-IsPermutation eqb (λ x y. grind (arith, nat_tests)) xs ys p (distinct_tools xs h))

pub in_any_order : (xs ys : List ℕ) → IsPermutation xs ys → is_carousel xs ≡ true → is_carousel ys ≡ true
in_any_order xs ys p h =
    let l = length_permutation xs ys p in
    let a = tools_in_any_order xs ys p (grind (arith, nat_tests)) in
    let o = once_in_any_order xs ys p (grind (arith, nat_tests)) in
    grind (arith, nat_tests)

-- an exchange is another order; it keeps the number of stations, that each holds a tool, and that none stands twice
exchanged_order : (xs : List ℕ) (s : ℕ) → length xs ≡ 8 → s < 8 → IsPermutation xs (exchanged xs s)
exchanged_order xs s n l =
    let p = IsPermutation-swap xs _ 0 s (omega arith) (omega arith) (swap_is xs 0 s 0 (omega arith) (omega arith)) in grind (arith, nat_tests)

pub exchanged_length : (xs : List ℕ) (s : ℕ) → length (exchanged xs s) ≡ length xs
exchanged_length xs s = elim (cases_lt s 8) [ inl l ↦ let a = length-set xs 0 (slice_index xs s) in let b = length-set (slice_set xs 0 (slice_index xs s)) s (slice_index xs 0) in grind (arith, nat_tests) | inr l ↦ grind (arith, nat_tests) ]

pub exchanged_tools : (xs : List ℕ) (s : ℕ) → length xs ≡ 8 → all_tools xs ≡ true → all_tools (exchanged xs s) ≡ true
exchanged_tools xs s n h =
    elim (cases_lt s 8) [ inl l ↦ tools_in_any_order xs (exchanged xs s) (exchanged_order xs s n l) h | inr l ↦ grind (arith, nat_tests) ]

pub exchanged_once : (xs : List ℕ) (s : ℕ) → length xs ≡ 8 → none_twice xs ≡ true → none_twice (exchanged xs s) ≡ true
exchanged_once xs s n h =
    elim (cases_lt s 8) [ inl l ↦ once_in_any_order xs (exchanged xs s) (exchanged_order xs s n l) h | inr l ↦ grind (arith, nat_tests) ]

exchanged_carousel : (xs : List ℕ) (s : ℕ) → is_carousel xs ≡ true → is_carousel (exchanged xs s) ≡ true
exchanged_carousel xs s h =
    let n : length xs ≡ 8 = grind (arith, nat_tests) in
    let l = exchanged_length xs s in
    let a = exchanged_tools xs s n (grind (arith, nat_tests)) in
    let o = exchanged_once xs s n (grind (arith, nat_tests)) in
    grind (arith, nat_tests)

-- what a row means is a carousel, so that the row after an exchange means what it holds
pub mean_exchanged : (r : CarouselRow) (s : ℕ) → mean (record { tools = exchanged (mean r) s }) ≡ exchanged (mean r) s
mean_exchanged r s =
    elim (cases_Bool (is_carousel r.tools)) [
      | inl e ↦ let h = exchanged_carousel r.tools s e in simp (e, h)
      | inr e ↦ let h = exchanged_carousel straight s refl in simp (e, h)
    ]
