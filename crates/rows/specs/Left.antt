-- What is left to come of a sheet's rows and of a row's fields, and what one step takes of it.
use Rattle.std.specs.Prelude.{◌≡◌, ℕ, List, [], ◌∷◌, Option, Some, None}
use Rattle.std.specs.Option.{option_map}
use Rattle.rows.specs.declared.row.Rows.{Rows}
use Rattle.rows.specs.declared.token.Fields.{Fields}
use Rattle.rows.specs.declared.token.Token.{Token}
use Rattle.rows.specs.Sheet.{rows, fields_of, said_of}
use Rattle.rows.specs.Tokens.{said, part_of}

abbrev pub rows_left : Rows → List (List ℕ)
rows_left s = rows s.left.now

abbrev pub fields_left : Fields → List (List ℕ)
fields_left s = fields_of (option_map (λ x. x.now) s.rest)

-- the first of the fields, with the others left; or none, where no field is left
abbrev pub YieldsField : Fields → Option Token → Fields → Type 0
YieldsField s None t = (fields_left s ≡ []) × (fields_left t ≡ [])
YieldsField s (Some field) t = (fields_left s ≡ part_of field ∷ fields_left t) × (said field ≡ said_of (part_of field))
