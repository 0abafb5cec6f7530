-- The tokens of the code.
use Rattle.std.specs.Prelude.{ℕ, List}
use Rattle.rows.specs.declared.token.Token.{Token}
use Rattle.rows.specs.declared.token.Token.TheVariants.{Letter, Number, Other}
use Rattle.rows.specs.Sheet.{Said, letter, number, other}

-- what a token says
abbrev pub said : Token → Said
said (Letter b p) = letter b
said (Number n p) = number n
said (Other p) = other

-- the bytes of the part that it holds
abbrev pub part_of : Token → List ℕ
part_of (Letter b p) = p.now
part_of (Number n p) = p.now
part_of (Other p) = p.now
