-- A life of a new floor with the roll as service, through two epochs.
use Rattle.std.specs.Prelude.{◌≡◌, ℕ, true, false, List, [], ◌∷◌, length, replicate, Ok, Result}
use Rattle.service.specs.Meant.{Meant}
use Rattle.config.specs.Configured.{Configured, Kept}
use Rattle.roll.specs.declared.Roll.{Roll}
use Rattle.roll.specs.declared.RollCommand.{RollCommand}
use Rattle.roll.specs.declared.RollCommand.TheVariants.{Load, Draw}
use Rattle.roll.specs.declared.RollUpdate.{RollUpdate}
use Rattle.roll.specs.declared.RollUpdate.TheVariants.{Load as LoadUpdate, Cut}
use Rattle.roll.specs.Cloth.{worked, applied}
use Rattle.entries.specs.declared.Entry.{Entry}
use Rattle.machine.specs.declared.envelope.Message.TheVariants.{Probe, NewState}
use Rattle.machine.specs.declared.fault.Fault.{Fault}
use Rattle.machine.specs.declared.seat.Seat.TheVariants.{Idle}
use Rattle.machine.specs.Machine.{Here, at, no_envelope}
use Rattle.machine.specs.Changes.{Act, start, order, settle, hand, report, begin, propose}
use Rattle.law.specs.Lives.{fresh, World, New, Call, outcome, next, moment, letter, delivered}
use Rattle.law.specs.Safety.{Settles, Opens}

-- the roll as a service
abbrev pub roll : Meant
roll = record {
  Row = Roll;
  Meaning = ℕ;
  mean = λ r. r.left;
  Command = RollCommand;
  Update = RollUpdate;
  worked = worked;
  applied = applied;
  opening = record { left = 0 };
  next = λ s u. record { left = applied s.left u };
}

-- a blank entry
abbrev pub no_entry : Entry RollUpdate
no_entry = record { epoch = 0; serial = 0; update = LoadUpdate 0 }

-- a new floor over blank tables
abbrev pub new_floor : Here roll
new_floor = record {
  started = false;
  controllers = replicate 8 fresh;
  seats = replicate 4 Idle;
  lengths = replicate 32 0;
  sent = 0;
  entries = replicate 512 no_entry;
  openings = replicate 2048 no_entry;
  committed = replicate 8 roll.opening;
  speculative = replicate 8 roll.opening;
  envelopes = replicate 1024 no_envelope;
}

-- an empty single table, open
abbrev pub empty_table : Configured
empty_table = record { all = []; limit = 32; is_open = true }

abbrev pub start_world : World roll
start_world = record { floor = new_floor; config = empty_table }

-- a call made while the configuration service is open
abbrev pub call : Act RollCommand → Call roll
call a = record { is_open = true; made = a }

-- Controller 0 leads 0, 1 and 2 in epoch 1, orders a load and settles it. Seat 0 probes, controller 1 answers and opens
-- epoch 2 for 1 and 2. Controller 2 joins it; controller 1 orders a draw and settles both; controller 2 delivers both.
abbrev pub calls : List (Call roll)
calls =
    call (start 7 0)
    ∷ call (order 0 1 (Load 5000))
    ∷ call (hand 0 1)
    ∷ call (hand 0 2)
    ∷ call (hand 1 0)
    ∷ call (hand 2 0)
    ∷ call (settle 0)
    ∷ call (begin 0)
    ∷ call (hand 4 1)
    ∷ call (report 5)
    ∷ call (propose 0 6 1)
    ∷ call (hand 6 1)
    ∷ call (hand 7 2)
    ∷ call (hand 8 1)
    ∷ call (order 1 2 (Draw 1200))
    ∷ call (hand 9 2)
    ∷ call (hand 10 1)
    ∷ call (settle 1)
    ∷ call (hand 11 2)
    ∷ []

-- how many calls the life has
abbrev pub count : ℕ
count = length calls

-- what the calls answer, one after the other
abbrev pub answers : World roll → List (Call roll) → List (Result ℕ Fault)
answers w [] = []
answers w (k ∷ ks) = (outcome roll w k).answer ∷ answers (next roll w k) ks

-- every call is granted
abbrev pub granted : List (Result ℕ Fault)
granted =
    Ok 1
    ∷ Ok 5000
    ∷ Ok 0
    ∷ Ok 0
    ∷ Ok 0
    ∷ Ok 0
    ∷ Ok 1
    ∷ Ok 2
    ∷ Ok 0
    ∷ Ok 1
    ∷ Ok 2
    ∷ Ok 0
    ∷ Ok 0
    ∷ Ok 0
    ∷ Ok 3800
    ∷ Ok 0
    ∷ Ok 0
    ∷ Ok 2
    ∷ Ok 2
    ∷ []

-- the entry made in epoch 1, and the entry made in epoch 2
abbrev pub loaded : Entry RollUpdate
loaded = record { epoch = 1; serial = 1; update = LoadUpdate 5000 }

abbrev pub drawn : Entry RollUpdate
drawn = record { epoch = 2; serial = 2; update = Cut 1200 }

-- what the life shows
pub record Shown : Type 0 where
  pub new : New roll start_world.floor
  pub kept : Kept start_world.config
  pub answered : answers start_world calls ≡ granted
  -- controller 0 settles the load in epoch 1
  pub settles : Settles roll start_world calls 6 0 1 (loaded ∷ [])
  -- the envelope that call 8 hands to controller 1 probes for epoch 2
  pub probes : letter roll (moment roll start_world calls 8).floor 4 ≡ Probe 2 1 0
  -- controller 1 opens epoch 2 with the load
  pub opens : Opens roll start_world calls 11 1 2 (loaded ∷ [])
  -- the envelope that call 12 hands to controller 2 is NEWSTATE of epoch 2, which controller 2 is then in
  pub joins : letter roll (moment roll start_world calls 12).floor 7 ≡ NewState 2
  pub joined : (at roll (moment roll start_world calls 13).floor 2).epoch ≡ 2
  -- controller 2 delivers the load of epoch 1 and the draw of epoch 2
  pub delivers : delivered roll start_world calls 2 ≡ loaded ∷ drawn ∷ []
