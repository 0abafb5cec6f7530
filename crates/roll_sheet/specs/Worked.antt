-- A worked sheet of twelve rows, and its lines.
use Rattle.std.specs.Prelude.{◌≡◌, ℕ, List, [], ◌∷◌, ◌++◌, codes}
use Rattle.std.specs.List.{flat_map}
use Rattle.sheet.specs.Playing.{sheet_text}
use Rattle.roll_sheet.specs.Meaning.{roll, verbs, new_world}

-- a row or a line with its CR LF
abbrev pub ended : List ℕ → List ℕ
ended r = r ++ 13 ∷ 10 ∷ []

abbrev pub worked_rows : List (List ℕ)
worked_rows =
    codes "f,3,0"
    ∷ codes "o,0,7,l,5000"
    ∷ codes "o,0,8,d,1200"
    ∷ codes "h,1,1"
    ∷ codes "h,0,1"
    ∷ codes "h,2,0"
    ∷ codes "s,0"
    ∷ codes "h,3,1"
    ∷ codes "h,3,1"
    ∷ codes "o,0,8,d,10"
    ∷ codes "o,0,9,d,4000"
    ∷ codes "q"
    ∷ []

abbrev pub worked_lines : List (List ℕ)
worked_lines =
    codes "1,0,0,0,1"
    ∷ codes "2,0,0,0,5000"
    ∷ codes "3,0,0,0,3800"
    ∷ codes "4,5,9,0,0"
    ∷ codes "5,0,0,0,0"
    ∷ codes "6,0,0,0,0"
    ∷ codes "7,0,0,0,1"
    ∷ codes "8,0,0,0,1"
    ∷ codes "9,5,8,0,0"
    ∷ codes "10,5,10,0,0"
    ∷ codes "11,5,12,2,0"
    ∷ codes "12,2,0,0,0"
    ∷ []

abbrev pub worked_sheet : List ℕ
worked_sheet = flat_map ended worked_rows

abbrev pub worked_text : List ℕ
worked_text = flat_map ended worked_lines

-- the twelve rows, played on a new floor, get the twelve lines
abbrev pub Worked : Type 0
Worked = sheet_text roll verbs new_world worked_sheet ≡ worked_text
