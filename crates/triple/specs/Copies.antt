-- Three copies of one list of configurations.
use Rattle.std.specs.Prelude.{◌≡◌, ◌+◌, ℕ, Bool, true, false, if◌then◌else◌, ◌&&◌, List, [], ◌∷◌, length, take, map, replicate, count_by, All, ◌==◌, nat_le, nat_lt, slice_index_or, slice_set}
use Rattle.std.specs.List.{range_with_len}
use Rattle.config.specs.declared.row.ConfigRow.{ConfigRow}
use Rattle.config.specs.Configured.{no_row}
use Rattle.triple.specs.declared.copies.CopyRows.{CopyRows}
use Rattle.triple.specs.declared.copies.Copies.{Copies}

-- whether the first list is a beginning of the second
abbrev pub begins : List ConfigRow → List ConfigRow → Bool
begins [] ys = true
begins (x ∷ xs) [] = false
begins (x ∷ xs) (y ∷ ys) = x.members == y.members && x.leader == y.leader && begins xs ys

-- what a copy holds
abbrev pub held : CopyRows → List ConfigRow
held p = take p.len p.rows

-- the longer of two copies; the first of them, where they are level
abbrev pub longer : CopyRows → CopyRows → CopyRows
longer p q = if nat_lt p.len q.len then q else p

-- an empty copy
abbrev pub no_copy : CopyRows
no_copy = record { rows = replicate 32 no_row; len = 0 }

abbrev pub copy : Copies → ℕ → CopyRows
copy t i = slice_index_or t.at i no_copy

abbrev pub longest : Copies → CopyRows
longest t = longer (longer (copy t 0) (copy t 1)) (copy t 2)

-- whether a copy is a beginning of the longest
abbrev pub is_beginning : Copies → CopyRows → Bool
is_beginning t p = begins (held p) (held (longest t))

-- whether a copy holds all of the longest
abbrev pub holds_all : Copies → CopyRows → Bool
holds_all t p = begins (held (longest t)) (held p)

abbrev pub two_hold_all : Copies → Bool
two_hold_all t = nat_le 2 (count_by (holds_all t) t.at)

-- there are three copies, and each has room for 32 rows
abbrev pub Sized : Copies → Type 0
Sized t = (length t.at ≡ 3) × All (λ p. length p.rows ≡ 32) t.at

-- three empty copies
abbrev pub no_copies : Copies
no_copies = record { at = replicate 3 no_copy }

-- a copy with one row more
abbrev pub pushed : CopyRows → ConfigRow → CopyRows
pushed p r = record { rows = slice_set p.rows p.len r; len = p.len + 1 }

-- a copy that is up becomes level with the longest and takes the row; a copy that is down stays as it is
abbrev pub copy_stored : Copies → ConfigRow → Bool → CopyRows → CopyRows
copy_stored t r up p = if up then pushed (longest t) r else p

-- up copies are those whose flag is true
abbrev pub copies_stored : Copies → List Bool → ConfigRow → Copies
copies_stored t ups r = record { at = map (λ i. copy_stored t r (slice_index_or ups i false) (copy t i)) (range_with_len 0 3) }
