-- The roll: how many millimetres of cloth are left.
use Rattle.std.specs.Prelude.{ℕ, ◌-◌, Bool, ◌&&◌, if◌then◌else◌, Ok, Err, Result, nat_le}
use Rattle.service.specs.declared.ServiceFault.{ServiceFault}
use Rattle.service.specs.declared.Worked.{Worked}
use Rattle.roll.specs.declared.RollCommand.{RollCommand}
use Rattle.roll.specs.declared.RollCommand.TheVariants.{Load, Draw}
use Rattle.roll.specs.declared.RollUpdate.{RollUpdate}
use Rattle.roll.specs.declared.RollUpdate.TheVariants.{Load as LoadUpdate, Cut}
use Rattle.roll.specs.declared.RollFault.{RollFault}
use Rattle.roll.specs.declared.RollFault.TheVariants.{OutOfRange, NotEnough}

-- the roll's numbers
abbrev pub number : RollFault → ServiceFault
number OutOfRange = record { number = 1 }
number NotEnough = record { number = 2 }

-- what a cut of d leaves: nothing, where d is more than is left
abbrev pub cut : ℕ → ℕ → ℕ
cut left d = if nat_le d left then left - d else 0

-- whether a draw of d can be cut from what is left
abbrev pub enough : ℕ → ℕ → Bool
enough left d = nat_le d left

-- a draw of 1 to 20,000 mm replies what it leaves, where there is enough; a load of at most 200,000 mm replies itself
abbrev pub worked : ℕ → RollCommand → Result (Worked RollUpdate) ServiceFault
worked left (Load r) = if nat_le r 200000 then Ok (record { reply = r; update = LoadUpdate r }) else Err (number OutOfRange)
worked left (Draw d) =
    if nat_le 1 d && nat_le d 20000
    then (if enough left d then Ok (record { reply = cut left d; update = Cut d }) else Err (number NotEnough))
    else Err (number OutOfRange)

abbrev pub applied : ℕ → RollUpdate → ℕ
applied left (LoadUpdate r) = r
applied left (Cut d) = cut left d
