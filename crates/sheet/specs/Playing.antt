-- A sheet played row by row on a floor: the lines that it gets, and the floor afterwards.
use Rattle.std.specs.Prelude.{◌≡◌, ℕ, ◌+◌, cond, List, [], ◌∷◌, ◌++◌, length, Ok, Err, Result, ◌==◌, nat_le}
use Rattle.std.specs.List.{flat_map}
use Rattle.service.specs.Meant.{Meant}
use Rattle.config.specs.Configured.{Configured}
use Rattle.machine.specs.declared.call.Call.{Call}
use Rattle.machine.specs.declared.fault.Fault.{Fault}
use Rattle.machine.specs.Machine.{State, step}
use Rattle.rows.specs.declared.line.Line.{Line}
use Rattle.rows.specs.Sheet.{rows}
use Rattle.rows.specs.Lines.{text as line_text}
use Rattle.sheet.specs.declared.fault.SheetFault.{SheetFault}
use Rattle.sheet.specs.declared.tally.Tally.{Tally}
use Rattle.sheet.specs.Faults.{of_floor, line_of}
use Rattle.sheet.specs.Verbs.{Verbs}
use Rattle.sheet.specs.Reading.{read, then}

-- a floor with its tables and its configuration service
pub record World (X U : Type 0) : Type 0 where
  pub floor : State X U
  pub config : Configured

-- S5: what the floor answers
abbrev pub answered : Result ℕ Fault → Result ℕ SheetFault
answered (Ok n) = Ok n
answered (Err f) = Err (of_floor f)

-- S6: the one line of a sheet above 65,536 bytes
abbrev pub too_long : Line
too_long = record { row = 0; sheet = 6; floor = 0; inside = 0; answer = 0 }

-- how many of the lines grant their row
abbrev pub granted : List Line → ℕ
granted [] = 0
granted (l ∷ ls) = cond (l.sheet == 0) 1 0 + granted ls

module _ (M : Meant) (V : Verbs M.Command) where
  abbrev pub Here : Type 0
  Here = World M.Row M.Update

  -- what a row is answered, and what it leaves
  abbrev pub row_answer : Here → List ℕ → Result ℕ SheetFault
  row_answer w r = then (read V r) (λ c. answered (step M w.floor w.config c).answer)

  abbrev pub after_call : Here → Result (Call M.Command) SheetFault → Here
  after_call w (Ok c) = record { floor = (step M w.floor w.config c).after; config = (step M w.floor w.config c).config }
  after_call w (Err f) = w

  abbrev pub row_after : Here → List ℕ → Here
  row_after w r = after_call w (read V r)

  -- the lines of rows, numbered from n on, and what the rows leave
  abbrev pub lines : Here → ℕ → List (List ℕ) → List Line
  lines w n [] = []
  lines w n (r ∷ rs) = line_of n (row_answer w r) ∷ lines (row_after w r) (n + 1) rs

  abbrev pub after : Here → List (List ℕ) → Here
  after w [] = w
  after w (r ∷ rs) = after (row_after w r) rs

  -- what was written, what is left and what was counted, once these rows are played
  pub record RowsPlayed (was : Here) (rs : List (List ℕ)) (before : List ℕ) (is : Here) (written : List ℕ) (t : Tally) : Type 0 where
    pub text : written ≡ before ++ flat_map line_text (lines was 1 rs)
    pub after : is ≡ after was rs
    pub rows : t.rows ≡ length rs
    pub granted : t.granted ≡ granted (lines was 1 rs)

  -- the same of a sheet: its rows are played, or it is too long and nothing is
  abbrev pub sheet_text : Here → List ℕ → List ℕ
  sheet_text w bs = cond (nat_le (length bs) 65536) (flat_map line_text (lines w 1 (rows bs))) (line_text too_long)

  abbrev pub sheet_after : Here → List ℕ → Here
  sheet_after w bs = cond (nat_le (length bs) 65536) (after w (rows bs)) w

  abbrev pub sheet_tally : Here → List ℕ → Tally
  sheet_tally w bs = cond (nat_le (length bs) 65536) (record { rows = length (rows bs); granted = granted (lines w 1 (rows bs)) }) (record { rows = 0; granted = 0 })

  pub record Played (was : Here) (bs before : List ℕ) (is : Here) (written : List ℕ) (t : Tally) : Type 0 where
    pub text : written ≡ before ++ sheet_text was bs
    pub after : is ≡ sheet_after was bs
    pub count : t ≡ sheet_tally was bs
