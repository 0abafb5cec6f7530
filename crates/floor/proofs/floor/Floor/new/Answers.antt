use Rattle.std.proofs.Common.{arith}
use Rattle.floor.proofs.Lawfuls.{lawful_new, short_new}
use Rattle.floor.proofs.floor.Floor.new.Goals as goal

pub invariant_of-result-clause-lawful : goal.invariant_of-result-clause-lawful
invariant_of-result-clause-lawful c = lawful_new _ (omega arith, omega arith)

pub invariant_of-result-clause-short : goal.invariant_of-result-clause-short
invariant_of-result-clause-short c = short_new
