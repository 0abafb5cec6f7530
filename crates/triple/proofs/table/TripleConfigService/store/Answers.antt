use Rattle.std.proofs.Common.{◌<◌, arith, rules}
use Rattle.std.proofs.lemmas.Bool.Decides.{nat_tests}
use Rattle.triple.proofs.Level.{granted, keeps_after, held_after}
use Rattle.triple.proofs.table.TripleConfigService.store.Goals as goal

pub invariant_of-self : goal.invariant_of-self
invariant_of-self c =
    let was = c.args.self.now in
    let row = c.into.result in
    let room : c.in_ok-last.field-0 < 32 = search (nat_tests, rules) in
    let g = granted was c.in_ok-last.field-0 (omega arith) c.in_ok-last.ensures room in
    let k = keeps_after was row g c.store.new.self c.store.ensures (simp c.into.ensures c.args.configuration.sound) in
    record { sized = k.sized; begins = k.begins; twice = k.twice; fits = k.fits; sound = k.sound }

pub returns-clause-after : goal.returns-clause-after
returns-clause-after c =
    let was = c.args.self.now in
    let room : c.in_ok-last.field-0 < 32 = search (nat_tests, rules) in
    let g = granted was c.in_ok-last.field-0 (omega arith) c.in_ok-last.ensures room in
    let h = held_after was c.into.result g in
    grind (arith, nat_tests)
