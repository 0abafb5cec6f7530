-- Lists of tools, station by station, and an exchange of two stations.
use Rattle.std.specs.Prelude.{◌≡◌, ℕ, zero, suc, ◌<◌, true, false, if◌then◌else◌, List, [], ◌∷◌, length, ◌==◌, ◌≢◌, nat_lt, slice_index, slice_set, refl}
use Rattle.std.proofs.Common.{suc-le-suc, not-suc-le-zero, le_of_suc-le-suc, eqb, arith, sym, ◌∙◌, inl, inr}
use Rattle.std.proofs.lemmas.Bool.{ltb-true, cases_lt, cases_eq}
use Rattle.std.proofs.lemmas.List.{length-set, get_or-set_same, get_or-set_other}
use Rattle.std.proofs.lemmas.List.Sums.{AllPass-from_list_all}
use Rattle.std.proofs.lemmas.Map.Keys.{apart_from_distinct}
use Rattle.std.proofs.lemmas.Bool.Decides.{nat_tests}
use Rattle.carousel.specs.Stations.{holds, all_tools, none_twice}
use Rattle.carousel.specs.Tools.{distinct_tools}

-- every station holds a tool
pub Below : List ℕ → Type 0
Below xs = (i : ℕ) → i < length xs → slice_index xs i < 8

-- and no two the same
pub Apart : List ℕ → Type 0
Apart xs = (i : ℕ) → i < length xs → (j : ℕ) → j < length xs → (i ≢ j) → slice_index xs i ≢ slice_index xs j

pub all_below : (xs : List ℕ) → all_tools xs ≡ true → Below xs
unfolding Below
all_below xs h i l = ltb-true _ 8 (AllPass-from_list_all (λ x. nat_lt x 8) xs h i 0 l)

pub below_all : (xs : List ℕ) → Below xs → all_tools xs ≡ true
unfolding Below
below_all [] f = refl
below_all (x ∷ xs) f =
    let a : x < 8 = f 0 (omega arith) in
    let r = below_all xs (λ i l. f (suc i) (suc-le-suc l)) in
    grind (arith, nat_tests)

-- what is not held stands nowhere
pub holds_not : (xs : List ℕ) (t : ℕ) → holds xs t ≡ false → (i : ℕ) → i < length xs → slice_index xs i ≢ t
holds_not [] t h i l e = absurd (not-suc-le-zero l)
holds_not (x ∷ xs) t h zero l e = grind (arith, nat_tests)
holds_not (x ∷ xs) t h (suc i) l e = holds_not xs t (grind (arith, nat_tests)) i (le_of_suc-le-suc l) e

pub not_holds : (xs : List ℕ) (t : ℕ) → ((i : ℕ) → i < length xs → slice_index xs i ≢ t) → holds xs t ≡ false
not_holds [] t f = refl
not_holds (x ∷ xs) t f =
    let a : x ≡ t → ⊥ = f 0 (omega arith) in
    let r = not_holds xs t (λ i l. f (suc i) (suc-le-suc l)) in
    grind (arith, nat_tests)

pub none_apart : (xs : List ℕ) → none_twice xs ≡ true → Apart xs
unfolding Apart
none_apart xs h i l j m d e =
    let apart = apart_from_distinct eqb xs in
    elim (cases_lt i j) [
      | inl b ↦ let f = apart i j 0 (distinct_tools xs h) b m in grind (arith, nat_tests)
      | inr b ↦ let f = apart j i 0 (distinct_tools xs h) (omega arith) l in grind (arith, nat_tests)
    ]

pub apart_none : (xs : List ℕ) → Apart xs → none_twice xs ≡ true
unfolding Apart
apart_none [] f = refl
apart_none (x ∷ xs) f =
    let a = not_holds xs x (λ i l e. f (suc i) (suc-le-suc l) 0 (omega arith) (omega arith) e) in
    let r = apart_none xs (λ i l j m d. f (suc i) (suc-le-suc l) (suc j) (suc-le-suc m) (omega arith)) in
    grind (arith, nat_tests)

-- the station whose tool an exchange of 0 and s brings to station i
abbrev pub source : ℕ → ℕ → ℕ
source s i = if i == s then 0 else (if i == 0 then s else i)

abbrev pub swapped : List ℕ → ℕ → List ℕ
swapped xs s = slice_set (slice_set xs 0 (slice_index xs s)) s (slice_index xs 0)

pub length_swapped : (xs : List ℕ) (s : ℕ) → length (swapped xs s) ≡ length xs
length_swapped xs s = simp length-set

pub swapped_at : (xs : List ℕ) (s i : ℕ) → s < length xs → i < length xs → slice_index (swapped xs s) i ≡ slice_index xs (source s i)
swapped_at xs s i h l =
    elim (cases_eq i s) [
      | inl e ↦
          let a = get_or-set_same (slice_set xs 0 (slice_index xs s)) s (slice_index xs 0) 0 (simp length-set h) in
          grind (arith, nat_tests)
      | inr n ↦
          let a = get_or-set_other (slice_set xs 0 (slice_index xs s)) s i (slice_index xs 0) 0 n in
          elim (cases_eq i 0) [
            | inl z ↦ let b = get_or-set_same xs 0 (slice_index xs s) 0 (omega arith) in grind (arith, nat_tests)
            | inr m ↦ let b = get_or-set_other xs 0 i (slice_index xs s) 0 m in grind (arith, nat_tests)
          ]
    ]

pub source_lt : (s i n : ℕ) → s < n → i < n → source s i < n
source_lt s i n h l = grind (arith, nat_tests)

pub source_ne : (s i j : ℕ) → (i ≢ j) → source s i ≢ source s j
source_ne s i j d e = grind (arith, nat_tests)

pub swapped_below : (xs : List ℕ) (s : ℕ) → s < length xs → Below xs → Below (swapped xs s)
unfolding Below
swapped_below xs s h f i l =
    let m : i < length xs = simp length-set at l in
    rw (swapped_at xs s i h m) (f (source s i) (source_lt s i (length xs) h m))

pub swapped_apart : (xs : List ℕ) (s : ℕ) → s < length xs → Apart xs → Apart (swapped xs s)
unfolding Apart
swapped_apart xs s h f i l j m d e =
    let a : i < length xs = simp length-set at l in
    let b : j < length xs = simp length-set at m in
    f (source s i) (source_lt s i (length xs) h a) (source s j) (source_lt s j (length xs) h b) (source_ne s i j d)
    (sym (swapped_at xs s i h a) ∙ e ∙ swapped_at xs s j h b)

-- there are not n + 1 different numbers below n
pub crowded : (n : ℕ) (f : ℕ → ℕ) → ((i : ℕ) → i < suc n → f i < n) → ((i : ℕ) → i < suc n → (j : ℕ) → j < i → f j ≢ f i) → ⊥
crowded zero f small distinct = not-suc-le-zero (small 0 (omega arith))
crowded (suc m) f small distinct =
    crowded m (λ i. if f i == m then f (suc m) else f i)
    (λ i h.
    let a = small i (omega arith) in
    let b = small (suc m) (omega arith) in
    let d = distinct (suc m) (omega arith) i h in
    grind (arith, nat_tests))
    (λ i h j k e.
    let d = distinct (suc m) (omega arith) i h in
    let q = distinct (suc m) (omega arith) j (omega arith) in
    let p = distinct i (omega arith) j k in
    grind (arith, nat_tests))

-- so n different numbers below n leave none out
pub none_missing : (n : ℕ) (f : ℕ → ℕ) (v : ℕ) → v < n → ((i : ℕ) → i < n → f i < n) → ((i : ℕ) → i < n → (j : ℕ) → j < i → f j ≢ f i)
    → ((k : ℕ) → k < n → f k ≢ v) → ⊥
none_missing n f v hv small distinct missing =
    crowded n (λ i. if nat_lt i n then f i else v)
    (λ i h. let a = small i in grind (arith, nat_tests))
    (λ i h j k e. let d = λ (l : i < n). distinct i l j k in let q = missing j (omega arith) in grind (arith, nat_tests))
