-- A floor and its tables as the machine sees them.
use Rattle.std.specs.Prelude.{◌≡◌, ◌≤◌, vec_items, vec_len, slice_index_or}
use Rattle.machine.specs.Rows.{no_controller}
use Rattle.machine.specs.Machine.{State}
use Rattle.machine.specs.declared.controller.Controller.{Controller}
use Rattle.machine.specs.declared.tables.Tables.{Tables}
use Rattle.floor.specs.declared.ids.ControllerId.{ControllerId}
use Rattle.floor.specs.declared.floor.Floor.{Floor}

abbrev pub seen : {S C U : Type 0} → Floor → Tables S C U → State S U
seen f t = record {
  started = f.started;
  controllers = f.controllers;
  seats = f.seats.at;
  lengths = f.lengths;
  sent = f.sent;
  entries = vec_items t.entries;
  openings = vec_items t.openings;
  committed = vec_items t.committed;
  speculative = vec_items t.speculative;
  envelopes = vec_items t.envelopes;
}

-- the controller of this number
abbrev pub controller_at : Floor → ControllerId → Controller
controller_at f id = slice_index_or f.controllers id.number no_controller

-- the same floor but for its controllers
abbrev pub Beside : Floor → Floor → Type 0
Beside f g = (g.started ≡ f.started) × (g.seats ≡ f.seats) × (g.lengths ≡ f.lengths) × (g.sent ≡ f.sent)

-- tables that are long enough
pub record AreLong {S C U : Type 0} (t : Tables S C U) : Type 0 where
  pub entries : 512 ≤ vec_len t.entries
  pub openings : 2048 ≤ vec_len t.openings
  pub committed : 8 ≤ vec_len t.committed
  pub speculative : 8 ≤ vec_len t.speculative
  pub envelopes : 1024 ≤ vec_len t.envelopes
