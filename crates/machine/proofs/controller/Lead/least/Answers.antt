use Rattle.std.proofs.Common.{◌≡◌, sym, ap, ◌∙◌, arith}
use Rattle.machine.proofs.Least.{least_among, least_is}
use Rattle.machine.proofs.controller.Lead.least.Goals as goal

pub returns : goal.returns
returns c =
    let e : c.loop-c.c ≡ 8 = omega arith in
    c.loop-c.invariant ∙ ap (least_among c.args.self.now.members c.args.self.now.told c.args.this c.args.own) e ∙ sym (least_is c.args.self.now c.args.this c.args.own)
