-- Copies that a store brings level.
use Rattle.std.proofs.Common.{◌≡◌, ℕ, ◌+◌, ◌-◌, ◌<◌, ◌≤◌, Bool, true, false, nat_le, count_by, if◌then◌else◌, List, [], ◌∷◌, ◌++◌, length, All, get_or, Ok, refl, sym, subst, ◌∙◌, inl, inr, arith, length-set}
use Rattle.std.proofs.lemmas.Bool.{cases_Bool}
use Rattle.std.proofs.lemmas.List.{length-take-le, get_or-take, take_more_set}
use Rattle.std.proofs.lemmas.List.Elements.{All-nil, All-cons}
use Rattle.std.proofs.lemmas.Bool.Decides.{nat_tests}
use Rattle.config.specs.declared.row.ConfigRow.{ConfigRow}
use Rattle.config.specs.Members.{lawful}
use Rattle.config.specs.Configured.{last, configuration, store_answer, stored, no_row}
use Rattle.config.specs.Rows.{Lawful}
use Rattle.config.specs.Firsts.{lawful_more}
use Rattle.triple.specs.declared.copies.CopyRows.{CopyRows}
use Rattle.triple.specs.declared.copies.Copies.{Copies}
use Rattle.triple.specs.declared.table.Triple.{Triple}
use Rattle.triple.specs.Copies.{begins, held, longer, copy, longest, is_beginning, two_hold_all, Sized, no_copy, pushed, copy_stored, copies_stored}
use Rattle.triple.specs.Meant.{two_up, meant}

-- a list is a beginning of itself, and stays one of a list that grows
begins_self : (xs : List ConfigRow) → begins xs xs ≡ true
begins_self [] = refl
begins_self (x ∷ xs) = let r = begins_self xs in grind (arith, nat_tests)

begins_more : (xs ys zs : List ConfigRow) → begins xs ys ≡ true → begins xs (ys ++ zs) ≡ true
begins_more [] ys zs h = refl
begins_more (x ∷ xs) [] zs h = absurd cc
begins_more (x ∷ xs) (y ∷ ys) zs h = let r = begins_more xs ys zs in grind (arith, nat_tests)

-- what each copy is after a store, all are
each_stored : (P : CopyRows → Type 0) (t : Copies) (ups : List Bool) (r : ConfigRow)
    → ((i : ℕ) → i < 3 → P (copy_stored t r (get_or ups i false) (copy t i))) → All P (copies_stored t ups r).at
each_stored P t ups r h =
    let at = λ (i : ℕ). copy_stored t r (get_or ups i false) (copy t i) in
    All-cons P (at 0) (at 1 ∷ at 2 ∷ []) (h 0 (omega arith)) (All-cons P (at 1) (at 2 ∷ []) (h 1 (omega arith)) (All-cons P (at 2) [] (h 2 (omega arith)) (All-nil P)))

-- no copy is longer than the longest, which has room for 32 rows as each has
longest_most : (t : Copies) → ((copy t 0).len ≤ (longest t).len) × ((copy t 1).len ≤ (longest t).len) × ((copy t 2).len ≤ (longest t).len)
longest_most t = (grind (arith, nat_tests), grind (arith, nat_tests), grind (arith, nat_tests))

longest_sized : (t : Copies) → Sized t → length (longest t).rows ≡ 32
longest_sized t h =
    let a = h.1 0 no_copy (omega arith) in
    let b = h.1 1 no_copy (omega arith) in
    let c = h.1 2 no_copy (omega arith) in
    grind (arith, nat_tests)

-- a store while two copies or more are up: they hold the longest with the row, which is longer than all before
longest_by : (a b c : Bool) (p q s l : CopyRows) → two_up (a ∷ b ∷ c ∷ []) ≡ true → p.len < l.len → q.len < l.len → s.len < l.len
    → longer (longer (if a then l else p) (if b then l else q)) (if c then l else s) ≡ l
longest_by a b c p q s l h i j k = grind (arith, nat_tests)

longest_stored : (t : Copies) (ups : List Bool) (r : ConfigRow) → length ups ≡ 3 → two_up ups ≡ true → longest (copies_stored t ups r) ≡ pushed (longest t) r
longest_stored t (a ∷ b ∷ c ∷ []) r n two =
    let m = longest_most t in longest_by a b c (copy t 0) (copy t 1) (copy t 2) (pushed (longest t) r) two (omega arith) (omega arith) (omega arith)
longest_stored t _ r n two = absurd (omega arith)

-- copies that are up hold all of the longest, so at least two do
holds_all_up : (up : Bool) (p l : CopyRows) → up ≡ true → begins (held l) (held (if up then l else p)) ≡ true
holds_all_up up p l h = rw h (begins_self (held l))

two_more : (a b c x y z : Bool) → (a ≡ true → x ≡ true) → (b ≡ true → y ≡ true) → (c ≡ true → z ≡ true) → two_up (a ∷ b ∷ c ∷ []) ≡ true
    → two_up (x ∷ y ∷ z ∷ []) ≡ true
two_more a b c x y z f g h e = grind (arith, nat_tests)

two_level : (a b c : Bool) (p q s l : CopyRows) → two_up (a ∷ b ∷ c ∷ []) ≡ true
    → nat_le 2 (count_by (λ x. begins (held l) (held x)) ((if a then l else p) ∷ (if b then l else q) ∷ (if c then l else s) ∷ [])) ≡ true
two_level a b c p q s l h = two_more a b c _ _ _ (holds_all_up a p l) (holds_all_up b q l) (holds_all_up c s l) h

two_stored : (t : Copies) (ups : List Bool) (r : ConfigRow) → length ups ≡ 3 → two_up ups ≡ true → two_hold_all (copies_stored t ups r) ≡ true
two_stored t (a ∷ b ∷ c ∷ []) r three two =
    rw (longest_stored t (a ∷ b ∷ c ∷ []) r three two) (two_level a b c (copy t 0) (copy t 1) (copy t 2) (pushed (longest t) r) two)
two_stored t _ r three two = absurd (omega arith)

-- what always holds of the three copies
pub record Keeps (t : Copies) : Type 0 where
  pub sized : Sized t
  pub begins : All (λ p. is_beginning t p ≡ true) t.at
  pub twice : two_hold_all t ≡ true
  pub fits : (longest t).len ≤ 32
  pub sound : Lawful (longest t).rows (longest t).len

-- what a granted store has found: two copies or more are up, and the longest has room
pub record Granted (s : Triple) : Type 0 where
  pub three : length s.up ≡ 3
  pub two : two_up s.up ≡ true
  pub room : (longest s.copies).len < 32

held_length : (t : Copies) → Sized t → (longest t).len ≤ 32 → length (held (longest t)) ≡ (longest t).len
held_length t s f = let m = longest_sized t s in length-take-le (longest t).len (longest t).rows (omega arith)

-- a last epoch that is answered: the service is open, and the longest copy holds so many rows
pub answered : (t : Copies) (ups : List Bool) (n : ℕ) → Sized t → (longest t).len ≤ 32 → Ok n ≡ last (meant t ups) → (two_up ups ≡ true) × (n ≡ (longest t).len)
answered t ups n s f h =
    let l = held_length t s f in
    elim (cases_Bool (two_up ups)) [ inl e ↦ (e, grind (arith, nat_tests)) | inr e ↦ absurd (let q = simp e at h in cc) ]

-- the row of an epoch
pub epoch_row : (t : Copies) (ups : List Bool) (e : ℕ) → Sized t → (longest t).len ≤ 32 → two_up ups ≡ true → 1 ≤ e → e ≤ (longest t).len
    → configuration (meant t ups) e ≡ Ok (get_or (longest t).rows (e - 1) no_row)
epoch_row t ups e s f two a b =
    let l = held_length t s f in
    let g = get_or-take (longest t).len (longest t).rows (e - 1) no_row (omega arith) in
    grind (arith, nat_tests)

pub granted : (s : Triple) (n : ℕ) → length s.up ≡ 3 → Ok n ≡ last (meant s.copies s.up) → n < 32 → Granted s
granted s n three e lt =
    let a = answered s.copies s.up n s.sized s.fits e in record { three = three; two = a.0; room = let q = a.1 in omega arith }

-- one row more in the longest copy, for which there is room
module _ (t : Copies) (r : ConfigRow) (sized : Sized t) (room : (longest t).len < 32) where
  held_pushed : held (pushed (longest t) r) ≡ held (longest t) ++ r ∷ []
  held_pushed = let n = longest_sized t sized in take_more_set (longest t).rows (longest t).len r (omega arith)

  begins_stored : (up : Bool) (p : CopyRows) → is_beginning t p ≡ true → begins (held (copy_stored t r up p)) (held (pushed (longest t) r)) ≡ true
  begins_stored true p h = begins_self (held (pushed (longest t) r))
  begins_stored false p h = rw held_pushed (begins_more (held p) (held (longest t)) (r ∷ []) h)

  sized_stored : (up : Bool) (p : CopyRows) → length p.rows ≡ 32 → length (copy_stored t r up p).rows ≡ 32
  sized_stored true p h = length-set (longest t).rows (longest t).len r ∙ longest_sized t sized
  sized_stored false p h = h

module _ (s : Triple) (r : ConfigRow) (g : Granted s) where
  abbrev old : CopyRows
  old = longest s.copies

  abbrev new : Copies
  new = copies_stored s.copies s.up r

  longest_after : longest new ≡ pushed old r
  longest_after = longest_stored s.copies s.up r g.three g.two

  pub sized_after : Sized new
  sized_after = (refl, each_stored (λ p. length p.rows ≡ 32) s.copies s.up r (λ i lt. sized_stored s.copies r s.sized g.room (get_or s.up i false) (copy s.copies i) (s.sized.1 i no_copy (omega arith))))

  pub begins_after : All (λ p. is_beginning new p ≡ true) new.at
  begins_after =
      rw longest_after
      (each_stored (λ p. begins (held p) (held (pushed old r)) ≡ true) s.copies s.up r (λ i lt. begins_stored s.copies r s.sized g.room (get_or s.up i false) (copy s.copies i) (s.begins i no_copy (omega arith))))

  pub twice_after : two_hold_all new ≡ true
  twice_after = two_stored s.copies s.up r g.three g.two

  pub fits_after : (longest new).len ≤ 32
  fits_after = let b = g.room in rw longest_after (omega arith)

  pub sound_after : lawful r.members r.leader ≡ true → Lawful (longest new).rows (longest new).len
  sound_after l = rw longest_after (lawful_more old.rows old.len r (let n = longest_sized s.copies s.sized in let b = g.room in omega arith) s.sound l)

  stored_keeps : lawful r.members r.leader ≡ true → Keeps new
  stored_keeps l = record { sized = sized_after; begins = begins_after; twice = twice_after; fits = fits_after; sound = sound_after l }

  pub keeps_after : (n : Copies) → n ≡ new → lawful r.members r.leader ≡ true → Keeps n
  keeps_after n e l = subst Keeps (sym e) (stored_keeps l)

  pub held_after : held (longest new) ≡ held old ++ r ∷ []
  held_after = rw longest_after (held_pushed s.copies r s.sized g.room)

  pub granted_epoch : (e : ℕ) → e ≡ old.len → store_answer (meant s.copies s.up) e ≡ Ok (e + 1)
  granted_epoch e h =
      let b = g.room in
      let o = g.two in
      let l = held_length s.copies s.sized s.fits in
      grind (arith, nat_tests)

  pub meant_after : (n : Copies) → n ≡ new → (e : ℕ) → e ≡ old.len → meant n s.up ≡ stored (meant s.copies s.up) e r
  meant_after n q e h = rw (granted_epoch e h, q, held_after) refl
