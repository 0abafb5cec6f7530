-- The machine's calls that change a configuration, and the calls together.
use Rattle.std.specs.Prelude.{ℕ, ◌+◌, ◌-◌, Bool, true, false, cond, not, ◌&&◌, Some, None, Ok, Err, Option, Result, ◌==◌, nat_lt, slice_index_or}
use Rattle.service.specs.Meant.{Meant}
use Rattle.config.specs.Members.{member, only}
use Rattle.config.specs.Made.{made}
use Rattle.config.specs.Configured.{Configured, last, configuration, store_answer, stored}
use Rattle.config.specs.declared.row.ConfigRow.{ConfigRow}
use Rattle.config.specs.declared.row.ConfigFault.{ConfigFault}
use Rattle.machine.specs.declared.call.Call.{Call}
use Rattle.machine.specs.declared.call.Call.TheVariants.{Start, Order, Settle, Hand}
use Rattle.machine.specs.declared.envelope.Envelope.{Envelope}
use Rattle.machine.specs.declared.envelope.Message.{Message}
use Rattle.machine.specs.declared.envelope.Message.TheVariants.{Commit, Accept, Held, Probe, Answer, NewConfig, NewState}
use Rattle.machine.specs.declared.fault.Fault.TheVariants.{ShortTables, NotStarted, OutOfRange, Unlawful, NotAddressed, WrongState, NothingNew, BagFull}
use Rattle.machine.specs.declared.seat.Seat.{Seat}
use Rattle.machine.specs.declared.seat.Seat.TheVariants.{Idle, Probing}
use Rattle.machine.specs.Faults.{of_config}
use Rattle.machine.specs.Rows.{stopped}
use Rattle.machine.specs.Machine.{in_range, absent, no_envelope, Here, After, Both, refuse, grant, ask, unless, long_tables, at, put_controller, put_seat, post, with_config, ordered, settled, handed, started_by}

-- a call with its arguments
pub data Act (C : Type 0) : Type 0 where
  start : ℕ → ℕ → Act C
  order : ℕ → ℕ → C → Act C
  settle : ℕ → Act C
  hand : ℕ → ℕ → Act C
  report : ℕ → Act C
  begin : ℕ → Act C
  lower : ℕ → Act C
  propose : ℕ → ℕ → ℕ → Act C
  abandon : ℕ → Act C
  stop : ℕ → Act C

-- a built call, as one of them
abbrev pub act_of : {C : Type 0} → Call C → Act C
act_of (Start m l) = start m l
act_of (Order c n x) = order c n x
act_of (Settle c) = settle c
act_of (Hand i c) = hand i c

module _ (M : Meant) where
  abbrev pub seat_at : Here M → ℕ → Seat
  seat_at t i = slice_index_or t.seats i Idle

  -- 1, 2, 3: are the tables long enough, has the floor been started, is there such a seat?
  abbrev pub at_seat : Here M → ℕ → After M → After M
  at_seat t i d = ask M t (long_tables M t) ShortTables (ask M t t.started NotStarted (ask M t (nat_lt i 4) OutOfRange d))

  -- Report: an ANSWER is given to its seat; a yes adds f, a no marks the stage.
  abbrev pub heard : Here M → ℕ → Bool → ℕ → ℕ → ℕ → Seat → After M
  heard t i y n e f Idle = refuse M t WrongState
  heard t i true n e f (Probing m g ys nay) =
      ask M t (m == n) WrongState (ask M t (not (member ys f)) NothingNew (grant M 1 (put_seat M t i (Probing m g (ys + only f) nay))))
  heard t i false n e f (Probing m g ys nay) =
      ask M t (m == n) WrongState (ask M t (e == g && not nay) NothingNew (grant M 0 (put_seat M t i (Probing m g ys true))))

  -- 6, 7, 8
  abbrev pub reported : Here M → Message M.Update → After M
  reported t (Commit e n) = refuse M t NotAddressed
  reported t (Accept e k x) = refuse M t NotAddressed
  reported t (Held e h f) = refuse M t NotAddressed
  reported t (Probe n e i) = refuse M t NotAddressed
  reported t (Answer y n e f i) = heard t i y n e f (seat_at t i)
  reported t (NewConfig e m) = refuse M t NotAddressed
  reported t (NewState e) = refuse M t NotAddressed

  abbrev pub read_report : Here M → Envelope M.Update → After M
  read_report t e = ask M t (in_range e.sender e.message) OutOfRange (reported t e.message)

  abbrev pub report_of : Here M → ℕ → After M
  report_of t i =
      ask M t (long_tables M t) ShortTables
      (ask M t t.started NotStarted (ask M t (nat_lt i t.sent) OutOfRange (read_report t (slice_index_or t.envelopes i no_envelope))))

  -- a PROBE for the new epoch n at the stage e, to the members of e
  abbrev pub probe : Here M → ℕ → ℕ → ℕ → ConfigRow → Here M
  probe t i n e k =
      post M (put_seat M t i (Probing n e 0 false)) (record { sender = i; to = k.members; message = Probe n e i })

  -- 14, and the answer
  abbrev pub probed_at : Here M → ℕ → ℕ → ℕ → ℕ → Result ConfigRow ConfigFault → After M
  probed_at t i n e a (Ok k) = grant M a (probe t i n e k)
  probed_at t i n e a (Err f) = refuse M t (of_config f)

  -- Begin: the new epoch is last + 1, the stage is last, nothing is heard yet.
  abbrev pub begun_at : Here M → Configured → ℕ → Result ℕ ConfigFault → After M
  begun_at t s i (Ok n) = probed_at t i (n + 1) n (n + 1) (configuration s n)
  begun_at t s i (Err f) = refuse M t (of_config f)

  abbrev pub beginning : Here M → Configured → ℕ → Seat → After M
  beginning t s i Idle = ask M t (nat_lt t.sent 1024) BagFull (begun_at t s i (last s))
  beginning t s i (Probing m g ys nay) = refuse M t WrongState

  abbrev pub begin_of : Here M → Configured → ℕ → After M
  begin_of t s i = at_seat t i (beginning t s i (seat_at t i))

  -- Lower: one stage down with no no heard.
  abbrev pub lowering : Here M → Configured → ℕ → Seat → After M
  lowering t s i Idle = refuse M t WrongState
  lowering t s i (Probing m g ys nay) =
      ask M t (ys == 0 && (nay && nat_lt 1 g)) WrongState
      (ask M t (nat_lt t.sent 1024) BagFull (probed_at t i m (g - 1) (g - 1) (configuration s (g - 1))))

  abbrev pub lower_of : Here M → Configured → ℕ → After M
  lower_of t s i = at_seat t i (lowering t s i (seat_at t i))

  -- Propose: stores with expected last new - 1, sends NEWCONFIG to the new leader, makes the seat idle.
  abbrev pub proposed_with : Here M → Configured → ℕ → ℕ → ConfigRow → Result ℕ ConfigFault → Both M
  proposed_with t s i n k (Ok e) =
      with_config M
      (grant M n (post M (put_seat M t i Idle) (record { sender = i; to = only k.leader; message = NewConfig n k.members })))
      (stored s (n - 1) k)
  proposed_with t s i n k (Err f) = with_config M (refuse M t (of_config f)) (stored s (n - 1) k)

  abbrev pub proposing : Here M → Configured → ℕ → ConfigRow → Seat → Both M
  proposing t s i k Idle = with_config M (refuse M t WrongState) s
  proposing t s i k (Probing m g ys nay) =
      cond (member ys k.leader) (cond (nat_lt t.sent 1024) (proposed_with t s i m k (store_answer s (m - 1))) (with_config M (refuse M t BagFull) s)) (with_config M (refuse M t WrongState) s)

  abbrev pub proposal : Here M → Configured → ℕ → Option ConfigRow → Both M
  proposal t s i None = with_config M (refuse M t Unlawful) s
  proposal t s i (Some k) = proposing t s i k (seat_at t i)

  abbrev pub propose_of : Here M → Configured → ℕ → ℕ → ℕ → Both M
  propose_of t s i m l =
      cond (long_tables M t)
      (cond t.started (cond (nat_lt i 4) (proposal t s i (made m l)) (with_config M (refuse M t OutOfRange) s)) (with_config M (refuse M t NotStarted) s))
      (with_config M (refuse M t ShortTables) s)

  -- Abandon makes a probing seat idle.
  abbrev pub abandoning : Here M → ℕ → Seat → After M
  abandoning t i Idle = refuse M t WrongState
  abandoning t i (Probing m g ys nay) = grant M 0 (put_seat M t i Idle)

  abbrev pub abandon_of : Here M → ℕ → After M
  abandon_of t i = at_seat t i (abandoning t i (seat_at t i))

  -- Stop stops a running controller for good.
  abbrev pub stop_of : Here M → ℕ → After M
  stop_of t c =
      ask M t (long_tables M t) ShortTables (unless M t (absent t.started t.controllers c) (grant M 0 (put_controller M t c (stopped (at M t c)))))

  -- what a call does
  abbrev pub act : Here M → Configured → Act M.Command → Both M
  act t s (start m l) = started_by M t s m l
  act t s (order c n x) = with_config M (ordered M t c n x) s
  act t s (settle c) = with_config M (settled M t c) s
  act t s (hand i c) = with_config M (handed M t i c) s
  act t s (report i) = with_config M (report_of t i) s
  act t s (begin i) = with_config M (begin_of t s i) s
  act t s (lower i) = with_config M (lower_of t s i) s
  act t s (propose i m l) = propose_of t s i m l
  act t s (abandon i) = with_config M (abandon_of t i) s
  act t s (stop c) = with_config M (stop_of t c) s
