-- A run sheet, which is bytes: its rows, the fields of a row, and what a field says.
use Rattle.std.specs.Prelude.{ℕ, suc, ◌+◌, ◌-◌, ◌*◌, Bool, if◌then◌else◌, List, [], ◌∷◌, length, Some, None, Option, ◌==◌, ◌&&◌, nat_le, slice_index}
use Rattle.std.specs.List.{list_all}

-- whether two bytes are CR LF, which ends a row
abbrev pub ended : ℕ → ℕ → Bool
ended b c = b == 13 && c == 10

-- whether CR LF stands at place i
abbrev pub ends_at : List ℕ → ℕ → Bool
ends_at bs i = ended (slice_index bs i) (slice_index bs (i + 1))

-- puts a byte in front of the first of the parts
abbrev pub begin_with : ℕ → List (List ℕ) → List (List ℕ)
begin_with b [] = (b ∷ []) ∷ []
begin_with b (p ∷ ps) = (b ∷ p) ∷ ps

-- the rows of a sheet, each without its CR LF, which the last may lack; an empty sheet has none
abbrev pub rows : List ℕ → List (List ℕ)
rows [] = []
rows (b ∷ []) = (b ∷ []) ∷ []
rows (b ∷ c ∷ bs) = if ended b c then [] ∷ rows bs else begin_with b (rows (c ∷ bs))

-- how many bytes stand before the first CR LF, or in all where there is none
abbrev pub row_length : List ℕ → ℕ
row_length [] = 0
row_length (b ∷ []) = 1
row_length (b ∷ c ∷ bs) = if ended b c then 0 else suc (row_length (c ∷ bs))

-- whether each byte is from 33 to 126
abbrev pub printable : List ℕ → Bool
printable bs = list_all (λ b. nat_le 33 b && nat_le b 126) bs

-- the fields of a row: the parts between its commas; an empty row has one empty field
abbrev pub fields : List ℕ → List (List ℕ)
fields [] = [] ∷ []
fields (b ∷ bs) = if b == 44 then [] ∷ fields bs else begin_with b (fields bs)

-- the fields of what follows a comma, which are none where there is none
abbrev pub fields_of : Option (List ℕ) → List (List ℕ)
fields_of None = []
fields_of (Some bs) = fields bs

-- a letter, a number, or neither
pub data Said : Type 0 where
  letter : ℕ → Said
  number : ℕ → Said
  other : Said

-- whether a field is one byte from a to z
abbrev pub is_letter : List ℕ → Bool
is_letter bs = length bs == 1 && nat_le 97 (slice_index bs 0) && nat_le (slice_index bs 0) 122

-- whether each byte is a decimal digit
abbrev pub all_digits : List ℕ → Bool
all_digits bs = list_all (λ b. nat_le 48 b && nat_le b 57) bs

-- whether a field is 1 to 9 digits
abbrev pub is_number : List ℕ → Bool
is_number bs = nat_le 1 (length bs) && nat_le (length bs) 9 && all_digits bs

-- the number that digits write after those that wrote n
abbrev pub value_after : ℕ → List ℕ → ℕ
value_after n [] = n
value_after n (b ∷ bs) = value_after (n * 10 + (b - 48)) bs

-- what a field of these bytes says
abbrev pub said_of : List ℕ → Said
said_of bs = if is_letter bs then letter (slice_index bs 0) else (if is_number bs then number (value_after 0 bs) else other)
