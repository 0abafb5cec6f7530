use Rattle.std.proofs.Common.{◌≡◌, arith}
use Rattle.std.proofs.lemmas.List.{replicate_more}
use Rattle.machine.proofs.Blanks.{blank_is}
use Rattle.machine.proofs.tables.filled.Goals as goal

pub loop-i-preserved : goal.loop-i-preserved
loop-i-preserved g c =
    let pushed = c.in_ok-push.ensures.items in
    let so_far = c.loop-i.invariant in
    let more = replicate_more c.loop-i._i c.args.row in
    cc

pub returns : goal.returns
returns g c =
    let all : c.loop-i._i ≡ c.args.n = omega arith in
    let so_far = c.loop-i.invariant in
    let same = blank_is c.args.n c.args.row in
    cc
