-- Lives of a floor: any calls with any arguments, one after the other, from a new floor.
use Rattle.std.specs.Prelude.{◌≡◌, ℕ, Bool, true, false, if◌then◌else◌, List, [], ◌∷◌, ◌++◌, take, replicate, Ok, Result, ◌==◌, slice_index_or}
use Rattle.service.specs.Meant.{Meant}
use Rattle.config.specs.Configured.{Configured}
use Rattle.entries.specs.declared.Entry.{Entry}
use Rattle.machine.specs.declared.controller.Controller.{Controller}
use Rattle.machine.specs.declared.controller.Role.TheVariants.{Fresh}
use Rattle.machine.specs.declared.envelope.Message.{Message}
use Rattle.machine.specs.declared.envelope.Message.TheVariants.{Commit}
use Rattle.machine.specs.declared.fault.Fault.{Fault}
use Rattle.machine.specs.declared.seat.Seat.TheVariants.{Idle}
use Rattle.machine.specs.Machine.{Here, Both, at, stretch, part, no_envelope}
use Rattle.machine.specs.Changes.{Act, hand, act}

-- a controller that is running and fresh
abbrev pub fresh : Controller
fresh = record { running = true; role = Fresh; epoch = 0; promise = 0; length = 0; delivered = 0 }

module _ (M : Meant) where
  -- a floor with its tables and its configurations
  pub record World : Type 0 where
    pub floor : Here M
    pub config : Configured

  -- a floor that is new; its tables may hold anything
  pub record New (t : Here M) : Type 0 where
    pub started : t.started ≡ false
    pub controllers : t.controllers ≡ replicate 8 fresh
    pub seats : t.seats ≡ replicate 4 Idle
    pub lengths : t.lengths ≡ replicate 32 0
    pub sent : t.sent ≡ 0

  -- a call, and whether the configuration service is open when it is made
  pub record Call : Type 0 where
    pub is_open : Bool
    pub made : Act M.Command

  abbrev pub opening : Configured → Bool → Configured
  opening s o = record s { is_open = o }

  -- what a call does
  abbrev pub outcome : World → Call → Both M
  outcome w k = act M w.floor (opening w.config k.is_open) k.made

  abbrev pub next : World → Call → World
  next w k = record { floor = (outcome w k).after; config = (outcome w k).config }

  -- the world after all these calls, and after the first i of them
  abbrev pub end : World → List Call → World
  end w [] = w
  end w (k ∷ ks) = end (next w k) ks

  abbrev pub moment : World → List Call → ℕ → World
  moment w ks i = end w (take i ks)

  -- the list that controller c holds
  abbrev pub holds : Here M → ℕ → List (Entry M.Update)
  holds t c = stretch t.entries c (at M t c).length

  -- the envelope that a hand names
  abbrev pub letter : Here M → ℕ → Message M.Update
  letter t i = (slice_index_or t.envelopes i no_envelope).message

  -- the entries that a granted hand of a COMMIT applies, by its answer n
  abbrev pub applies : Here M → ℕ → ℕ → Message M.Update → List (Entry M.Update)
  applies t c n (Commit e m) = part t.entries c (at M t c).delivered n
  applies t c n _ = []

  -- the entries that controller d delivers by a call, by what the call answers
  abbrev pub delivers : Here M → Act M.Command → Result ℕ Fault → ℕ → List (Entry M.Update)
  delivers t (hand i c) (Ok n) d = if d == c then applies t c n (letter t i) else []
  delivers t _ _ d = []

  -- the delivered list of controller d: the entries that its granted hands of COMMIT applied, in sequence
  abbrev pub delivered : World → List Call → ℕ → List (Entry M.Update)
  delivered w [] d = []
  delivered w (k ∷ ks) d = delivers w.floor k.made (outcome w k).answer d ++ delivered (next w k) ks d
