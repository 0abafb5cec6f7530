-- A new floor's record: not started, all controllers running and fresh, all seats idle, no envelope sent.
use Rattle.std.specs.Prelude.{◌≡◌, true, false, replicate}
use Rattle.machine.specs.declared.controller.Controller.{Controller}
use Rattle.machine.specs.declared.controller.Role.TheVariants.{Fresh}
use Rattle.machine.specs.declared.seat.Seat.TheVariants.{Idle}
use Rattle.floor.specs.declared.floor.Floor.{Floor}

abbrev pub fresh : Controller
fresh = record { running = true; role = Fresh; epoch = 0; promise = 0; length = 0; delivered = 0 }

pub record New (f : Floor) : Type 0 where
  pub started : f.started ≡ false
  pub controllers : f.controllers ≡ replicate 8 fresh
  pub seats : f.seats.at ≡ replicate 4 Idle
  pub lengths : f.lengths ≡ replicate 32 0
  pub sent : f.sent ≡ 0
