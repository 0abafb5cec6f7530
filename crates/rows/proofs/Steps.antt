-- The rows of a sheet and the fields of a row, taken one at a time.
use Rattle.std.proofs.Common.{◌≡◌, ℕ, zero, suc, ◌+◌, ◌<◌, ◌≤◌, true, false, cond, if◌then◌else◌, List, [], ◌∷◌, length, take, drop, Some, None, Option, refl, ap, suc-add, arith}
use Rattle.std.specs.Prelude.{position, ◌==◌, slice_index}
use Rattle.std.proofs.lemmas.Bool.Decides.{nat_tests}
use Rattle.std.proofs.lemmas.List.{take_rest, length-drop}
use Rattle.std.proofs.lemmas.List.Sums.{fails_before_first}
use Rattle.std.proofs.lemmas.List.Quantifiers.{position-Some}
use Rattle.std.specs.List.{position_or_len}
use Rattle.rows.specs.Sheet.{ended, ends_at, begin_with, rows, row_length, fields, fields_of}

-- a sheet that is not empty is its first row and the rows of what follows the first CR LF
pub rows_step : (bs : List ℕ) → 0 < length bs → rows bs ≡ take (row_length bs) bs ∷ rows (drop (row_length bs + 2) bs)
rows_step [] h = absurd (omega arith)
rows_step (b ∷ []) h = refl
rows_step (b ∷ (c ∷ bs)) h =
    elim (ended b c) as (λ e. cond e ([] ∷ rows bs) (begin_with b (rows (c ∷ bs))) ≡ take (cond e 0 (suc (row_length (c ∷ bs)))) (b ∷ (c ∷ bs)) ∷ rows (drop (cond e 0 (suc (row_length (c ∷ bs))) + 2) (b ∷ (c ∷ bs)))) [
      | true ↦ refl
      | false ↦ rw suc-add (ap (begin_with b) (rows_step (c ∷ bs) (omega arith)))
    ]

-- which are fewer
pub rows_fewer : (bs : List ℕ) (n : ℕ) → 0 < length bs → n ≡ row_length bs → length (rows (drop (n + 2) bs)) < length (rows bs)
rows_fewer bs n h e = let s = rows_step bs h in grind arith

pub rows_shorter : (bs : List ℕ) (n : ℕ) → 0 < length bs → length (drop (n + 2) bs) < length bs
rows_shorter bs n h = rw length-drop (omega arith)

pub ruleset row_steps = (rows_step, rows_fewer, rows_shorter)

-- a row is the bytes before its first comma and the fields of what follows it, or one field where it has none
fields_at : (bs : List ℕ) (n : ℕ) → (n < length bs) × ((slice_index bs n == 44) ≡ true) × ((k : ℕ) → k < n → (slice_index bs k == 44) ≡ false)
    → fields bs ≡ take n bs ∷ fields (drop (n + 1) bs)
fields_at [] n h = absurd (omega arith)
fields_at (b ∷ bs) zero h = rw h.1
fields_at (b ∷ bs) (suc n) h =
    let e : (b == 44) ≡ false = h.2 0 (omega arith) in
    let r : fields bs ≡ take n bs ∷ fields (drop (n + 1) bs) = fields_at bs n (omega arith, h.1, λ k l. h.2 (suc k) (omega arith)) in
    rw (e, suc-add) (ap (begin_with b) r)

fields_last : (bs : List ℕ) → ((k : ℕ) → k < length bs → (slice_index bs k == 44) ≡ false) → fields bs ≡ bs ∷ []
fields_last [] h = refl
fields_last (b ∷ bs) h = rw (h 0 (omega arith)) (ap (begin_with b) (fields_last bs (λ k l. h (suc k) (omega arith))))

pub fields_some : (bs : List ℕ) (n : ℕ) → position (λ b. b == 44) bs ≡ Some n → fields bs ≡ take n bs ∷ fields (drop (n + 1) bs)
fields_some bs n e = fields_at bs n (position-Some (λ b. b == 44) bs n 0 e)

pub fields_none : (bs : List ℕ) → position (λ b. b == 44) bs ≡ None → fields bs ≡ bs ∷ []
fields_none bs e =
    let l : length bs ≤ position_or_len (λ b. b == 44) bs = grind (arith, nat_tests) in
    fields_last bs (λ k m. fails_before_first (λ b. b == 44) bs k 0 (omega arith))

pub ruleset field_steps = (fields_some, fields_none, take_rest)

-- the bytes before the first comma, or all where there is none
abbrev pub first_field : List ℕ → List ℕ
first_field [] = []
first_field (b ∷ bs) = if b == 44 then [] else b ∷ first_field bs

-- what follows the first comma, where there is one
abbrev pub after_comma : List ℕ → Option (List ℕ)
after_comma [] = None
after_comma (b ∷ bs) = if b == 44 then Some bs else after_comma bs

-- a row is its first field and the fields of what follows its comma
pub fields_step : (bs : List ℕ) → fields bs ≡ first_field bs ∷ fields_of (after_comma bs)
fields_step [] = refl
fields_step (b ∷ bs) = let r = fields_step bs in grind (arith, nat_tests)

-- the row ends at the first CR LF, or with the sheet where there is none
pub first_end : (bs : List ℕ) (n : ℕ) → (n + 1 < length bs) × (ends_at bs n ≡ true)
    → ((k : ℕ) → k < n → ends_at bs k ≡ false) → n ≡ row_length bs
first_end [] n h k = absurd (omega arith)
first_end (b ∷ []) n h k = absurd (omega arith)
first_end (b ∷ c ∷ bs) zero h k = rw h.1
first_end (b ∷ c ∷ bs) (suc n) h k =
    let l : suc n + 1 < suc (suc (length bs)) = h.0 in
    let e : ended b c ≡ false = k 0 (omega arith) in
    let t : ends_at (c ∷ bs) n ≡ true = rw suc-add at h.1 in
    let r : n ≡ row_length (c ∷ bs) = first_end (c ∷ bs) n (omega arith, t) (λ i l. rw suc-add at (k (suc i) (omega arith))) in
    rw e (ap suc r)

pub no_end : (bs : List ℕ) → ((k : ℕ) → k + 1 < length bs → ends_at bs k ≡ false) → length bs ≡ row_length bs
no_end [] k = refl
no_end (b ∷ []) k = refl
no_end (b ∷ c ∷ bs) k =
    let e : ended b c ≡ false = k 0 (omega arith) in
    let r : suc (length bs) ≡ row_length (c ∷ bs) = no_end (c ∷ bs) (λ i l. rw suc-add at (k (suc i) (omega arith))) in
    rw e (ap suc r)

pub ruleset ends = (first_end, no_end)

-- a row lies within the sheet
pub row_length_le : (bs : List ℕ) → row_length bs ≤ length bs
row_length_le [] = omega arith
row_length_le (b ∷ []) = omega arith
row_length_le (b ∷ c ∷ bs) = let h = row_length_le (c ∷ bs) in grind (arith, nat_tests)

-- and so does its CR LF, where it has one
pub row_length_pair : (bs : List ℕ) → row_length bs < length bs → row_length bs + 2 ≤ length bs
row_length_pair [] h = omega arith
row_length_pair (b ∷ []) h = omega arith
row_length_pair (b ∷ c ∷ bs) h = let k = row_length_pair (c ∷ bs) in grind (arith, nat_tests)
