-- What a call asks first, and what it answers where it is refused.
use Rattle.std.specs.Prelude.{ℕ, cond, Some, None, Ok, Err, Option, Result, nat_lt}
use Rattle.service.specs.Meant.{Meant}
use Rattle.machine.specs.declared.controller.Lead.{Lead}
use Rattle.machine.specs.declared.controller.Role.{Role}
use Rattle.machine.specs.declared.controller.Role.TheVariants.{Fresh, Follower, Leader}
use Rattle.machine.specs.declared.fault.Fault.{Fault}
use Rattle.machine.specs.declared.fault.Fault.TheVariants.{ShortTables, NotStarted, OutOfRange, WrongState}
use Rattle.machine.specs.Machine.{Here, long_tables, absent}

-- why it is refused, if it is
abbrev pub refusal : {A : Type 0} → Result A Fault → Option Fault
refusal (Ok x) = None
refusal (Err f) = Some f

-- what a leader keeps, of a role that is one
abbrev pub lead_of : Role → Result Lead Fault
lead_of Fresh = Err WrongState
lead_of Follower = Err WrongState
lead_of (Leader l) = Ok l

module _ (M : Meant) where
  -- 1, 2, 3: why there is no controller c to call, if there is none
  abbrev pub no_id : Here M → ℕ → Option Fault
  no_id t c = cond (long_tables M t) (cond t.started (cond (nat_lt c 8) None (Some OutOfRange)) (Some NotStarted)) (Some ShortTables)

  -- 1, 2, 3, 5: why no controller c is running, if none is
  abbrev pub not_running : Here M → ℕ → Option Fault
  not_running t c = cond (long_tables M t) (absent t.started t.controllers c) (Some ShortTables)
