-- The machine's step, as a call's outcome.
use Rattle.std.proofs.Common.{◌≡◌, refl}
use Rattle.service.specs.Meant.{Meant}
use Rattle.config.specs.Configured.{Configured}
use Rattle.machine.specs.declared.call.Call.{Call}
use Rattle.machine.specs.declared.call.Call.TheVariants.{Start, Order, Settle, Hand}
use Rattle.machine.specs.Machine.{Here, step}
use Rattle.machine.specs.Changes.{act, act_of}

-- the machine's step is the call's outcome
pub steps : (M : Meant) (t : Here M) (s : Configured) (k : Call M.Command) → step M t s k ≡ act M t s (act_of k)
steps M t s (Start m l) = refl
steps M t s (Order c n x) = refl
steps M t s (Settle c) = refl
steps M t s (Hand i c) = refl
