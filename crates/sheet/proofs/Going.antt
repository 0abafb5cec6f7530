-- Rows played one at a time.
use Rattle.std.proofs.Common.{◌≡◌, ℕ, ◌+◌, ◌≤◌, cond, eqb, List, [], ◌∷◌, ◌++◌, length, Result, sym, refl, ◌∙◌, append_assoc, arith}
use Rattle.std.specs.List.{flat_map}
use Rattle.std.proofs.lemmas.List.{append-nil}
use Rattle.std.proofs.lemmas.Bool.Decides.{nat_tests}
use Rattle.service.specs.Meant.{Meant}
use Rattle.rows.specs.declared.line.Line.{Line}
use Rattle.rows.specs.Lines.{text as line_text}
use Rattle.sheet.specs.declared.fault.SheetFault.{SheetFault}
use Rattle.sheet.specs.declared.tally.Tally.{Tally}
use Rattle.sheet.specs.Faults.{line_of}
use Rattle.sheet.specs.Verbs.{Verbs}
use Rattle.sheet.specs.Playing.{Here, row_answer, row_after, lines, after, granted, RowsPlayed}

module _ (M : Meant) (V : Verbs M.Command) where
  -- with n rows played and g of them granted, what is left (rs) gives what all the rows give
  pub record Going (w₀ : Here M V) (rs₀ : List (List ℕ)) (o₀ : List ℕ) (w : Here M V) (rs : List (List ℕ)) (o : List ℕ) (n g : ℕ) : Type 0 where
    pub text : o ++ flat_map line_text (lines M V w (n + 1) rs) ≡ o₀ ++ flat_map line_text (lines M V w₀ 1 rs₀)
    pub after : after M V w rs ≡ after M V w₀ rs₀
    pub rows : n + length rs ≡ length rs₀
    pub granted : g + granted (lines M V w (n + 1) rs) ≡ granted (lines M V w₀ 1 rs₀)
    pub few : g ≤ n

  pub going_none : (w : Here M V) (rs : List (List ℕ)) (o : List ℕ) → Going w rs o w rs o 0 0
  going_none w rs o = record { text = refl; after = refl; rows = omega arith; granted = omega arith; few = omega arith }

  pub going_more : (w₀ : Here M V) (rs₀ : List (List ℕ)) (o₀ : List ℕ) (w : Here M V) (r : List ℕ) (rs : List (List ℕ)) (o : List ℕ) (n g : ℕ)
      → Going w₀ rs₀ o₀ w (r ∷ rs) o n g
      → Going w₀ rs₀ o₀ (row_after M V w r) rs (o ++ line_text (line_of (n + 1) (row_answer M V w r))) (n + 1) (g + cond (eqb (line_of (n + 1) (row_answer M V w r)).sheet 0) 1 0)
  going_more w₀ rs₀ o₀ w r rs o n g h =
      let l = line_of (n + 1) (row_answer M V w r) in
      record {
        text = append_assoc o (line_text l) (flat_map line_text (lines M V (row_after M V w r) (n + 1 + 1) rs)) ∙ h.text;
        after = h.after;
        rows = omega (arith, h.rows);
        granted = omega (arith, h.granted);
        few = let k = h.few in grind (arith, nat_tests);
      }

  -- the same, of what the code has at hand after one row more
  pub going_step : (w₀ : Here M V) (rs₀ : List (List ℕ)) (o₀ : List ℕ) (w w' : Here M V) (r : List ℕ) (rs rs' : List (List ℕ)) (o o' : List ℕ) (n n' g g' : ℕ)
      (l : Line) (a : Result ℕ SheetFault)
      → Going w₀ rs₀ o₀ w rs o n g → rs ≡ r ∷ rs' → a ≡ row_answer M V w r → w' ≡ row_after M V w r → l ≡ line_of (n + 1) a → o' ≡ o ++ line_text l
      → n' ≡ n + 1 → g' ≡ g + cond (eqb l.sheet 0) 1 0
      → Going w₀ rs₀ o₀ w' rs' o' n' g'
  going_step w₀ rs₀ o₀ w w' r rs rs' o o' n n' g g' l a h er ea ew el eo en eg =
      rw (ew, eo, en, eg, el, ea) (going_more w₀ rs₀ o₀ w r rs' o n g (rw er at h))

  pub going_all : (w₀ : Here M V) (rs₀ : List (List ℕ)) (o₀ : List ℕ) (w : Here M V) (o : List ℕ) (t : Tally) → Going w₀ rs₀ o₀ w [] o t.rows t.granted → RowsPlayed M V w₀ rs₀ o₀ w o t
  going_all w₀ rs₀ o₀ w o t h = record { text = sym (append-nil o) ∙ h.text; after = h.after; rows = omega (arith, h.rows); granted = omega (arith, h.granted) }
