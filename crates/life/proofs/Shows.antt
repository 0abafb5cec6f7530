-- The life, computed.
use Rattle.std.proofs.Common.{refl, arith}
use Rattle.machine.specs.Rows.{least, all_joined}
use Rattle.machine.specs.Machine.{all_first, over}
use Rattle.machine.specs.Changes.{settle, hand}
use Rattle.life.specs.Shown.{call, Shown}

pub shows : Shown
unfolding least all_joined all_first over
shows = record {
  new = record { started = refl; controllers = refl; seats = refl; lengths = refl; sent = refl };
  kept = record { some = omega arith; most = omega arith; fits = omega arith; lawfully = λ k less. absurd (omega arith) };
  answered = refl;
  settles = record { call = call (settle 0); there = refl; made = refl; count = 1; granted = refl; epoch = refl; list = refl };
  probes = refl;
  opens = record { call = call (hand 6 1); there = refl; envelope = 6; members = 6; made = refl; says = refl; answer = 0; granted = refl; list = refl };
  joins = refl;
  joined = refl;
  delivers = refl;
}
