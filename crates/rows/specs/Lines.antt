-- The lines that are written.
use Rattle.std.specs.Prelude.{ℕ, List, ◌++◌, codes, decimal}
use Rattle.rows.specs.declared.line.Line.{Line}

-- a line's five numbers in decimal with commas between, and CR LF
abbrev pub text : Line → List ℕ
text l =
    decimal l.row ++ codes "," ++ decimal l.sheet ++ codes "," ++ decimal l.floor ++ codes "," ++ decimal l.inside ++ codes "," ++ decimal l.answer
    ++ codes "\r\n"
