-- The worked sheet, computed.
use Rattle.std.proofs.Common.{refl}
use Rattle.machine.specs.Rows.{least, all_joined}
use Rattle.machine.specs.Machine.{all_first}
use Rattle.machine.specs.Blank.{blank}
use Rattle.std.specs.Fmt.{digits}
use Rattle.roll_sheet.specs.Worked.{Worked}

pub worked : Worked
unfolding least all_joined all_first blank digits
worked = refl
