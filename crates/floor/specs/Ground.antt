-- What is known of an envelope's numbers once no question refuses it to the controller; an ANSWER is always refused.
use Rattle.std.specs.Prelude.{◌≡◌, ℕ, ◌-◌, ◌<◌, ◌≤◌, true, slice_index}
use Rattle.config.specs.Members.{without}
use Rattle.machine.specs.Machine.{space}
use Rattle.machine.specs.declared.envelope.Message.{Message}
use Rattle.machine.specs.declared.envelope.Message.TheVariants.{Commit, Accept, Held, Probe, Answer, NewConfig, NewState}
use Rattle.floor.specs.declared.ids.ControllerId.{ControllerId}
use Rattle.floor.specs.declared.floor.Floor.{Floor}
use Rattle.floor.specs.Seen.{controller_at}

abbrev pub Ground : {U : Type 0} → Floor → ControllerId → ℕ → Message U → Type 0
Ground f id sender (Commit e n) = ((controller_at f id).delivered < n) × (n ≤ (controller_at f id).length)
Ground f id sender (Accept e p x) = (sender < 8) × (p ≡ (controller_at f id).length) × ((controller_at f id).length < 64) × (f.sent < 1024)
Ground f id sender (Held e h g) = g < 8
Ground f id sender (Probe n e i) = f.sent < 1024
Ground f id sender (Answer y n e g i) = ⊥
Ground f id sender (NewConfig e m) = (1 ≤ e) × (e ≤ 32) × (space f.sent (without m id.number) ≡ true)
Ground f id sender (NewState e) = (sender < 8) × (1 ≤ e) × (e ≤ 32) × ((controller_at f id).delivered ≤ slice_index f.lengths (e - 1)) × (f.sent < 1024)
