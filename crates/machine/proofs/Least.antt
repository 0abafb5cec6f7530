-- The least length, found controller by controller.
use Rattle.std.proofs.Common.{◌≡◌, ℕ, zero, suc, ◌+◌, ◌<◌, ◌≤◌, min, Bool, true, false, cond, List, [], ◌∷◌, ◌++◌, get_or, map, filter, Some, None, Option, refl, sym, ap, ◌∙◌, inl, inr, add-one, arith}
use Rattle.std.specs.Prelude.{fold}
use Rattle.std.specs.List.{range_with_len}
use Rattle.std.proofs.lemmas.Bool.{cases_eq}
use Rattle.std.proofs.lemmas.List.Sums.{fold-append}
use Rattle.std.proofs.lemmas.List.FromFn.{filter_of_map_range_with_len_more}
use Rattle.std.proofs.lemmas.List.{map-append, map-id}
use Rattle.config.specs.Members.{other}
use Rattle.machine.specs.declared.controller.Lead.{Lead}
use Rattle.machine.specs.Rows.{least, lesser}

-- the lesser of the two, where the first counts
abbrev pub lesser_if : Bool → Option ℕ → Option ℕ → Option ℕ
lesser_if false h n = n
lesser_if true h n = lesser h n

-- the least of a leader c's own length and what the other members among the first k controllers told
abbrev pub least_among : ℕ → List (Option ℕ) → ℕ → ℕ → ℕ → Option ℕ
least_among m told c own zero = Some own
least_among m told c own (suc k) = lesser_if (other m c k) (get_or told k None) (least_among m told c own k)

-- the controllers below k + 1 that pass a test
filter_more : (p : ℕ → Bool) (k : ℕ) → filter p (range_with_len 0 (k + 1)) ≡ filter p (range_with_len 0 k) ++ cond (p k) (k ∷ []) []
filter_more p k = simp map-id at (filter_of_map_range_with_len_more p (λ (i : ℕ). i) 0 k k (omega arith))

abbrev folded : ℕ → List (Option ℕ) → ℕ → ℕ → ℕ → Option ℕ
folded m told c own k = fold (λ n h. lesser h n) (Some own) (map (λ f. get_or told f None) (filter (other m c) (range_with_len 0 k)))

-- one controller more, which counts or does not
one_more : (told : List (Option ℕ)) (k : ℕ) (b : Bool) (n : Option ℕ)
    → fold (λ n h. lesser h n) n (map (λ f. get_or told f None) (cond b (k ∷ []) [])) ≡ lesser_if b (get_or told k None) n
one_more told k true n = refl
one_more told k false n = refl

step : (m : ℕ) (told : List (Option ℕ)) (c own k : ℕ) → folded m told c own (k + 1) ≡ lesser_if (other m c k) (get_or told k None) (folded m told c own k)
step m told c own k =
    let heard : ℕ → Option ℕ = λ f. get_or told f None in
    let lesser_of : Option ℕ → Option ℕ → Option ℕ = λ n h. lesser h n in
    let before = filter (other m c) (range_with_len 0 k) in
    let last = cond (other m c k) (k ∷ []) [] in
    ap (λ (fs : List ℕ). fold lesser_of (Some own) (map heard fs)) (filter_more (other m c) k)
    ∙ ap (fold lesser_of (Some own)) (map-append heard before last)
    ∙ fold-append lesser_of (Some own) (map heard before) (map heard last)
    ∙ one_more told k (other m c k) (folded m told c own k)

folded_is : (m : ℕ) (told : List (Option ℕ)) (c own k : ℕ) → folded m told c own k ≡ least_among m told c own k
folded_is m told c own zero = refl
folded_is m told c own (suc k) =
    ap (folded m told c own) (sym (add-one k))
    ∙ step m told c own k
    ∙ ap (lesser_if (other m c k) (get_or told k None)) (folded_is m told c own k)

pub least_is : (l : Lead) (c own : ℕ) → least l c own ≡ least_among l.members l.told c own 8
unfolding least
least_is l c own = folded_is l.members l.told c own 8

-- one controller more, by its number's successor
pub one_among : (m : ℕ) (told : List (Option ℕ)) (c own k : ℕ) → least_among m told c own (k + 1) ≡ lesser_if (other m c k) (get_or told k None) (least_among m told c own k)
one_among m told c own k = simp add-one

-- one more length taken into account leaves no more than there was, and no more than that length
lesser_le : (b : Bool) (h o : Option ℕ) (n : ℕ) → lesser_if b h o ≡ Some n → (a : ℕ) × (o ≡ Some a) × (n ≤ a)
lesser_le false h o n q = (n, q, omega arith)
lesser_le true None o n q = absurd cc
lesser_le true (Some x) None n q = absurd cc
lesser_le true (Some x) (Some y) n q = (y, refl, let e : min x y ≡ n = cc in omega arith)

lesser_told : (h o : Option ℕ) (n : ℕ) → lesser_if true h o ≡ Some n → (a : ℕ) × (h ≡ Some a) × (n ≤ a)
lesser_told None o n q = absurd cc
lesser_told (Some x) None n q = absurd cc
lesser_told (Some x) (Some y) n q = (x, refl, let e : min x y ≡ n = cc in omega arith)

-- the least of what was told is at most the own length, and at most each length told
least_among_le : (m : ℕ) (told : List (Option ℕ)) (c own k n : ℕ) → least_among m told c own k ≡ Some n → n ≤ own
least_among_le m told c own zero n h = let e : own ≡ n = cc in omega arith
least_among_le m told c own (suc k) n h =
    let a = lesser_le (other m c k) (get_or told k None) (least_among m told c own k) n h in
    let r = least_among_le m told c own k a.0 a.1 in
    let a2 = a.2 in omega arith

least_among_each : (m : ℕ) (told : List (Option ℕ)) (c own k n f : ℕ) → least_among m told c own k ≡ Some n → f < k → other m c f ≡ true
    → (h : ℕ) × (get_or told f None ≡ Some h) × (n ≤ h)
least_among_each m told c own zero n f h l o = absurd (omega arith)
least_among_each m told c own (suc k) n f h l o =
    elim (cases_eq f k) [
      | inl q ↦
          let t : lesser_if true (get_or told k None) (least_among m told c own k) ≡ Some n = rw (rw q at o) at h in
          let a = lesser_told (get_or told k None) (least_among m told c own k) n t in
          (a.0, rw q a.1, a.2)
      | inr d ↦
          let a = lesser_le (other m c k) (get_or told k None) (least_among m told c own k) n h in
          let r = least_among_each m told c own k a.0 f a.1 (omega arith) o in
          let a2 = a.2 in let r2 = r.2 in
          (r.0, r.1, omega arith)
    ]

pub least_le : (l : Lead) (c own n : ℕ) → least l c own ≡ Some n → n ≤ own
least_le l c own n h = least_among_le l.members l.told c own 8 n (sym (least_is l c own) ∙ h)

pub least_each : (l : Lead) (c own n f : ℕ) → least l c own ≡ Some n → f < 8 → other l.members c f ≡ true → (h : ℕ) × (get_or l.told f None ≡ Some h) × (n ≤ h)
least_each l c own n f h b o = least_among_each l.members l.told c own 8 n f (sym (least_is l c own) ∙ h) b o
