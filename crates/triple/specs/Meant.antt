-- The three copies as a configuration service.
use Rattle.std.specs.Prelude.{ℕ, Bool, if◌then◌else◌, List, Ok, Err, Result, count_by, nat_le, nat_lt, slice_set}
use Rattle.config.specs.declared.row.ConfigRow.{ConfigRow}
use Rattle.config.specs.declared.row.ConfigFault.{ConfigFault}
use Rattle.config.specs.Configured.{Configured}
use Rattle.triple.specs.declared.copies.Copies.{Copies}
use Rattle.triple.specs.declared.fault.CopyFault.{CopyFault}
use Rattle.triple.specs.declared.fault.CopyFault.TheVariants.{NoCopy}
use Rattle.triple.specs.Copies.{held, longest, copies_stored}

-- the refusal's number
abbrev pub number : CopyFault → ℕ
number NoCopy = 5

-- whether two copies or more are up
abbrev pub two_up : List Bool → Bool
two_up ups = nat_le 2 (count_by (λ up. up) ups)

-- the list is what the longest copy holds, the limit is 32, and the service is open when two copies or more are up
abbrev pub meant : Copies → List Bool → Configured
meant t ups = record { all = held (longest t); limit = 32; is_open = two_up ups }

-- the copies after a store, by its answer: a refused store changes nothing
abbrev pub copies_after : Result ℕ ConfigFault → Copies → List Bool → ConfigRow → Copies
copies_after (Ok e) t ups r = copies_stored t ups r
copies_after (Err f) t ups r = t

-- the copies are 0, 1 and 2
abbrev pub copy_answer : ℕ → Result (Unit {0}) CopyFault
copy_answer k = if nat_lt k 3 then Ok tt else Err NoCopy

-- which copies are up once copy k is taken up or down
abbrev pub turned : List Bool → ℕ → Bool → List Bool
turned ups k up = if nat_lt k 3 then slice_set ups k up else ups

-- a service that is the same but for whether it is open
abbrev pub opened : Configured → Bool → Configured
opened s o = record s { is_open = o }
