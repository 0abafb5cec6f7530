-- The roll and its verbs as values, and the floor on which its sheets begin.
use Rattle.std.specs.Prelude.{ℕ, true, if◌then◌else◌, [], Some, None, Option, ◌==◌}
use Rattle.service.specs.Meant.{Meant}
use Rattle.config.specs.Configured.{Configured}
use Rattle.roll.specs.declared.Roll.{Roll}
use Rattle.roll.specs.declared.RollCommand.{RollCommand}
use Rattle.roll.specs.declared.RollCommand.TheVariants.{Load, Draw}
use Rattle.roll.specs.declared.RollUpdate.{RollUpdate}
use Rattle.roll.specs.declared.RollUpdate.TheVariants.{Load as LoadUpdate}
use Rattle.roll.specs.Cloth.{worked, applied}
use Rattle.sheet.specs.Verbs.{Verbs}
use Rattle.sheet.specs.Playing.{World}
use Rattle.sheet.specs.Fresh.{fresh_world}
use Rattle.roll_sheet.specs.declared.RollVerb.{RollVerb}
use Rattle.roll_sheet.specs.declared.RollVerb.TheVariants as verb

abbrev pub roll : Meant
roll = record {
  Row = Roll;
  Meaning = ℕ;
  mean = λ r. r.left;
  Command = RollCommand;
  Update = RollUpdate;
  worked = worked;
  applied = applied;
  opening = record { left = 0 };
  next = λ s u. record { left = applied s.left u };
}

-- l loads, d draws
abbrev pub known : ℕ → Option RollVerb
known b = if b == 108 then Some verb.Load else (if b == 100 then Some verb.Draw else None)

abbrev pub says : RollVerb → ℕ → RollCommand
says verb.Load n = Load n
says verb.Draw n = Draw n

abbrev pub verbs : Verbs RollCommand
verbs = record { Kind = RollVerb; known = known; says = says }

-- an empty single table
abbrev pub empty_table : Configured
empty_table = record { all = []; limit = 32; is_open = true }

-- a new floor over blank tables, with an empty single table
abbrev pub new_world : World Roll RollUpdate
new_world = fresh_world roll (LoadUpdate 0) empty_table
