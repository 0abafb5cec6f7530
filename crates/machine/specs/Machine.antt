-- The machine: what each call answers and what every table is afterwards, granted or refused.
use Rattle.std.specs.Prelude.{ℕ, ◌+◌, ◌-◌, ◌*◌, Bool, true, cond, ◌&&◌, ◌||◌, List, ◌++◌, length, get_or, take, drop, fold, replicate, Some, None, Ok, Err, Option, Result, ◌==◌, nat_le, nat_lt, slice_index, slice_index_or, slice_set}
use Rattle.service.specs.Meant.{Meant}
use Rattle.service.specs.declared.ServiceFault.{ServiceFault}
use Rattle.service.specs.declared.Worked.{Worked}
use Rattle.config.specs.Members.{member, only, without}
use Rattle.config.specs.Made.{made}
use Rattle.config.specs.Configured.{Configured, store_answer, stored}
use Rattle.config.specs.declared.row.ConfigRow.{ConfigRow}
use Rattle.config.specs.declared.row.ConfigFault.{ConfigFault}
use Rattle.entries.specs.declared.Entry.{Entry}
use Rattle.entries.specs.Lists.{holds}
use Rattle.machine.specs.declared.call.Call.{Call}
use Rattle.machine.specs.declared.call.Call.TheVariants.{Start, Order, Settle, Hand}
use Rattle.machine.specs.declared.controller.Controller.{Controller}
use Rattle.machine.specs.declared.controller.Lead.{Lead}
use Rattle.machine.specs.declared.controller.Role.{Role}
use Rattle.machine.specs.declared.controller.Role.TheVariants.{Fresh, Follower, Leader}
use Rattle.machine.specs.declared.envelope.Envelope.{Envelope}
use Rattle.machine.specs.declared.envelope.Message.{Message}
use Rattle.machine.specs.declared.envelope.Message.TheVariants.{Commit, Accept, Held, Probe, Answer, NewConfig, NewState}
use Rattle.machine.specs.declared.fault.Fault.{Fault}
use Rattle.machine.specs.declared.fault.Fault.TheVariants.{ShortTables, NotStarted, Started, OutOfRange, Unlawful, Stopped, NotAddressed, WrongState, NothingNew, NoGround, SerialTaken, ListFull, BagFull}
use Rattle.machine.specs.declared.seat.Seat.{Seat}
use Rattle.machine.specs.Faults.{of_service, of_config}
use Rattle.machine.specs.Rows.{no_controller, follows, takes_part, leads_other, told_by, more, least, reach, longer, delivered_to, with_role, settled_at, told_to, all_joined, promised, leading, following}

-- A floor with its tables. X is the service's rows, U its updates.
pub record State (X U : Type 0) : Type 0 where
  pub started : Bool
  pub controllers : List Controller
  -- the four change seats
  pub seats : List Seat
  -- the length of the list with which epoch e was opened stands at e - 1
  pub lengths : List ℕ
  -- how many envelopes are sent
  pub sent : ℕ
  -- the list of controller c lies in the 64 places from c * 64 on
  pub entries : List (Entry U)
  -- the list with which epoch e was opened lies in the 64 places from (e - 1) * 64 on
  pub openings : List (Entry U)
  pub committed : List X
  pub speculative : List X
  pub envelopes : List (Envelope U)

-- What a call answers, and the floor after it.
pub record Done (X U : Type 0) : Type 0 where
  pub answer : Result ℕ Fault
  pub after : State X U

-- The same of a call that also reaches the configuration service.
pub record Reached (X U : Type 0) : Type 0 where
  pub answer : Result ℕ Fault
  pub after : State X U
  pub config : Configured

-- 1: are the tables long enough?
abbrev pub long : ℕ → ℕ → ℕ → ℕ → ℕ → Bool
long entries openings committed speculative envelopes =
    nat_le 512 entries && (nat_le 2048 openings && (nat_le 8 committed && (nat_le 8 speculative && nat_le 1024 envelopes)))

-- is there space in the bag for what is sent to these? Without an addressee nothing is sent
abbrev pub space : ℕ → ℕ → Bool
space sent to = to == 0 || nat_lt sent 1024

-- 2, 3, 5: has the floor been started, is there such a controller, is it running?
abbrev pub absent : Bool → List Controller → ℕ → Option Fault
absent started ks c =
    cond started (cond (nat_lt c 8) (cond (get_or ks c no_controller).running None (Some Stopped)) (Some OutOfRange)) (Some NotStarted)

-- 3: are an envelope's own numbers in range?
abbrev pub in_range : {U : Type 0} → ℕ → Message U → Bool
in_range sender (Commit e n) = true
in_range sender (Accept e k x) = nat_lt sender 8
in_range sender (Held e h f) = true
in_range sender (Probe n e i) = true
in_range sender (Answer y n e f i) = nat_lt f 8 && nat_lt i 4
in_range sender (NewConfig e m) = nat_le 1 e && nat_le e 32
in_range sender (NewState e) = nat_lt sender 8 && (nat_le 1 e && nat_le e 32)

-- 6, 7, 8, 9, 11, 13 for an envelope handed to the controller c, which is k: the first refusal
abbrev pub untaken : {U : Type 0} → ℕ → List ℕ → ℕ → Controller → Message U → Option Fault
untaken sent ls c k (Commit e n) =
    cond (takes_part k.role && k.epoch == e) (cond (nat_lt k.delivered n) (cond (nat_le n k.length) None (Some NoGround)) (Some NothingNew)) (Some WrongState)
untaken sent ls c k (Accept e p x) =
    cond (follows k.role && k.epoch == e)
    (cond (nat_le k.length p) (cond (p == k.length) (cond (nat_lt k.length 64) (cond (nat_lt sent 1024) None (Some BagFull)) (Some ListFull)) (Some NoGround)) (Some NothingNew))
    (Some WrongState)
untaken sent ls c k (Held e h f) =
    cond (leads_other k.role c f && k.epoch == e) (cond (more (told_by k.role f) h) (cond (nat_le h k.length) None (Some NoGround)) (Some NothingNew)) (Some WrongState)
untaken sent ls c k (Probe n e i) = cond (nat_le k.promise n) (cond (nat_lt sent 1024) None (Some BagFull)) (Some WrongState)
untaken sent ls c k (Answer y n e f i) = Some NotAddressed
untaken sent ls c k (NewConfig e m) =
    cond (k.promise == e && nat_lt k.epoch e) (cond (space sent (without m c)) None (Some BagFull)) (Some WrongState)
untaken sent ls c k (NewState e) =
    cond (nat_le k.promise e && nat_lt k.epoch e)
    (cond (nat_le k.delivered (slice_index ls (e - 1))) (cond (nat_lt sent 1024) None (Some BagFull)) (Some NoGround))
    (Some WrongState)

-- 3, 5, 6 and what follows, for an envelope handed to c
abbrev pub unhanded : {U : Type 0} → ℕ → List ℕ → ℕ → Controller → Envelope U → Option Fault
unhanded sent ls c k e =
    cond (in_range e.sender e.message) (cond k.running (cond (member e.to c) (untaken sent ls c k e.message) (Some NotAddressed)) (Some Stopped)) (Some OutOfRange)

-- what stands for an envelope that is not there
abbrev pub no_envelope : {U : Type 0} → Envelope U
no_envelope = record { sender = 0; to = 0; message = Commit 0 0 }

-- the list of controller c that has n entries, and the n entries from its place d on
abbrev pub stretch : {U : Type 0} → List (Entry U) → ℕ → ℕ → List (Entry U)
stretch es c n = take n (drop (c * 64) es)

-- the list with which epoch e was opened, of n entries
abbrev pub opening_of : {U : Type 0} → List (Entry U) → ℕ → ℕ → List (Entry U)
opening_of es e n = take n (drop ((e - 1) * 64) es)

-- a table with xs in the place of what stood from i on
unfoldable pub over : {X : Type 0} → List X → ℕ → List X → List X
over es i xs = take i es ++ (xs ++ drop (i + length xs) es)

abbrev pub part : {U : Type 0} → List (Entry U) → ℕ → ℕ → ℕ → List (Entry U)
part es c d n = take n (drop (c * 64 + d) es)

-- eight first rows in the place of the first eight
unfoldable pub all_first : {X : Type 0} → X → List X → List X
all_first x xs = replicate 8 x ++ drop 8 xs

module _ (M : Meant) where
  -- a floor with its tables, for this service
  abbrev pub Here : Type 0
  Here = State M.Row M.Update

  abbrev pub After : Type 0
  After = Done M.Row M.Update

  -- the row that a list of entries makes of a row
  abbrev pub run : M.Row → List (Entry M.Update) → M.Row
  run x es = fold (λ x e. M.next x e.update) x es

  -- one part of the floor changed
  abbrev pub put_controller : Here → ℕ → Controller → Here
  put_controller t c k = record t { controllers = slice_set t.controllers c k }

  abbrev pub put_entry : Here → ℕ → Entry M.Update → Here
  put_entry t i x = record t { entries = slice_set t.entries i x }

  abbrev pub put_committed : Here → ℕ → M.Row → Here
  put_committed t c x = record t { committed = slice_set t.committed c x }

  abbrev pub put_speculative : Here → ℕ → M.Row → Here
  put_speculative t c x = record t { speculative = slice_set t.speculative c x }

  abbrev pub put_seat : Here → ℕ → Seat → Here
  put_seat t i s = record t { seats = slice_set t.seats i s }

  -- the list of controller c taken over from the opening list of e, and the other way round
  abbrev pub put_list : Here → ℕ → List (Entry M.Update) → Here
  put_list t c xs = record t { entries = over t.entries (c * 64) xs }

  abbrev pub put_opening : Here → ℕ → List (Entry M.Update) → Here
  put_opening t e xs = record t {
    lengths = slice_set t.lengths (e - 1) (length xs);
    openings = over t.openings ((e - 1) * 64) xs;
  }

  -- an envelope put into the bag
  abbrev pub post : Here → Envelope M.Update → Here
  post t e = record t { sent = t.sent + 1; envelopes = slice_set t.envelopes t.sent e }

  -- the same, where it has an addressee
  abbrev pub send : Here → Envelope M.Update → Here
  send t e = cond (e.to == 0) t (post t e)

  -- a refusal changes nothing
  abbrev pub refuse : Here → Fault → After
  refuse t f = record { answer = Err f; after = t }

  abbrev pub grant : ℕ → Here → After
  grant n t = record { answer = Ok n; after = t }

  -- a question: where it is answered no, the refusal
  abbrev pub ask : Here → Bool → Fault → After → After
  ask t b f d = cond b d (refuse t f)

  abbrev pub unless : Here → Option Fault → After → After
  unless t None d = d
  unless t (Some f) d = refuse t f

  abbrev pub long_tables : Here → Bool
  long_tables t = long (length t.entries) (length t.openings) (length t.committed) (length t.speculative) (length t.envelopes)

  abbrev pub at : Here → ℕ → Controller
  at t c = slice_index_or t.controllers c no_controller

  -- Order: the leader works the command in its speculative state, appends the entry, applies the update there and sends ACCEPT.
  abbrev pub entered : Here → ℕ → Controller → Lead → Entry M.Update → M.Row → Here
  entered t c k l e x =
      send (put_speculative (put_entry (put_controller t c (longer k)) (c * 64 + k.length) e) c x)
      (record { sender = c; to = without l.members c; message = Accept k.epoch k.length e })

  abbrev pub worked_out : Here → ℕ → Controller → Lead → ℕ → Result (Worked M.Update) ServiceFault → After
  worked_out t c k l s (Err f) = refuse t (of_service f)
  worked_out t c k l s (Ok w) = ask t (space t.sent (without l.members c)) BagFull
      (grant w.reply
      (entered t c k l (record { epoch = k.epoch; serial = s; update = w.update }) (M.next (slice_index_or t.speculative c M.opening) w.update)))

  abbrev pub led : Here → ℕ → ℕ → M.Command → Controller → Role → After
  led t c s m k Fresh = refuse t WrongState
  led t c s m k Follower = refuse t WrongState
  led t c s m k (Leader l) =
      cond (holds (stretch t.entries c k.length) s) (refuse t SerialTaken)
      (ask t (nat_lt k.length 64) ListFull (worked_out t c k l s (M.worked (M.mean (slice_index_or t.speculative c M.opening)) m)))

  abbrev pub ordered : Here → ℕ → ℕ → M.Command → After
  ordered t c s m = ask t (long_tables t) ShortTables (unless t (absent t.started t.controllers c) (led t c s m (at t c) (at t c).role))

  -- Settle: the leader sends COMMIT of the least of its own length and the lengths told, and records it.
  abbrev pub settled_with : Here → ℕ → Controller → Lead → Option ℕ → After
  settled_with t c k l None = refuse t WrongState
  settled_with t c k l (Some n) =
      ask t (nat_lt l.settled n) NothingNew
      (ask t (space t.sent l.members) BagFull
      (grant n (send (put_controller t c (with_role k (settled_at l n))) (record { sender = c; to = l.members; message = Commit k.epoch n }))))

  abbrev pub settling : Here → ℕ → Controller → Role → After
  settling t c k Fresh = refuse t WrongState
  settling t c k Follower = refuse t WrongState
  settling t c k (Leader l) = settled_with t c k l (least l c k.length)

  abbrev pub settled : Here → ℕ → After
  settled t c = ask t (long_tables t) ShortTables (unless t (absent t.started t.controllers c) (settling t c (at t c) (at t c).role))

  -- Hand: the controller takes what the envelope says.
  abbrev pub delivered : Here → ℕ → Controller → ℕ → After
  delivered t c k r =
      grant (r - k.delivered)
      (put_committed (put_controller t c (delivered_to k r)) c (run (slice_index_or t.committed c M.opening) (part t.entries c k.delivered (r - k.delivered))))

  abbrev pub accepted : Here → ℕ → Controller → ℕ → ℕ → ℕ → Entry M.Update → Here
  accepted t c k sender e p x =
      send (put_entry (put_controller t c (longer k)) (c * 64 + k.length) x) (record { sender = c; to = only sender; message = Held e (p + 1) c })

  abbrev pub told : Here → ℕ → Controller → ℕ → ℕ → Here
  told t c k f h = put_controller t c (with_role k (told_to k.role f h))

  abbrev pub probed : Here → ℕ → Controller → ℕ → ℕ → ℕ → Here
  probed t c k n e i =
      post (put_controller t c (promised k n)) (record { sender = c; to = 0; message = Answer (nat_le e k.epoch) n e c i })

  -- c becomes leader of epoch e: its list is kept as the opening list, and its speculative state is its committed state
  -- with all entries held and not delivered applied
  abbrev pub opened_by : Here → ℕ → Controller → ℕ → ℕ → Here
  opened_by t c k e m =
      send
      (put_speculative (put_opening (put_controller t c (leading k e m)) e (stretch t.entries c k.length)) c
      (run (slice_index_or t.committed c M.opening) (part t.entries c k.delivered (k.length - k.delivered))))
      (record { sender = c; to = without m c; message = NewState e })

  -- c becomes follower in epoch e with the n entries of its opening list
  abbrev pub joined_by : Here → ℕ → Controller → ℕ → ℕ → ℕ → Here
  joined_by t c k e sender n =
      send (put_list (put_controller t c (following k e n)) c (opening_of t.openings e n))
      (record { sender = c; to = only sender; message = Held e n c })

  abbrev pub taken : Here → ℕ → Controller → ℕ → Message M.Update → After
  taken t c k sender (Commit e n) = delivered t c k (reach n k.delivered)
  taken t c k sender (Accept e p x) = grant 0 (accepted t c k sender e p x)
  taken t c k sender (Held e h f) = grant 0 (told t c k f h)
  taken t c k sender (Probe n e i) = grant 0 (probed t c k n e i)
  taken t c k sender (Answer y n e f i) = refuse t NotAddressed
  taken t c k sender (NewConfig e m) = grant 0 (opened_by t c k e m)
  taken t c k sender (NewState e) = grant 0 (joined_by t c k e sender (slice_index t.lengths (e - 1)))

  abbrev pub handed_over : Here → ℕ → Controller → Envelope M.Update → After
  handed_over t c k e = unless t (unhanded t.sent t.lengths c k e) (taken t c k e.sender e.message)

  abbrev pub handed : Here → ℕ → ℕ → After
  handed t i c =
      ask t (long_tables t) ShortTables
      (ask t t.started NotStarted
      (ask t (nat_lt c 8 && nat_lt i t.sent) OutOfRange (handed_over t c (at t c) (slice_index_or t.envelopes i no_envelope))))

  -- Start: epoch 1 is stored, its members join it, and every state becomes the first.
  abbrev pub opened : Here → ConfigRow → Here
  opened t k = record t {
    started = true;
    controllers = all_joined k.members k.leader t.controllers;
    committed = all_first M.opening t.committed;
    speculative = all_first M.opening t.speculative;
  }

  abbrev pub Both : Type 0
  Both = Reached M.Row M.Update

  abbrev pub with_config : After → Configured → Both
  with_config d s = record { answer = d.answer; after = d.after; config = s }

  abbrev pub started_with : Here → Configured → ConfigRow → Result ℕ ConfigFault → Both
  started_with t s k (Ok n) = with_config (grant 1 (opened t k)) (stored s 0 k)
  started_with t s k (Err f) = with_config (refuse t (of_config f)) (stored s 0 k)

  abbrev pub starting : Here → Configured → Option ConfigRow → Both
  starting t s None = with_config (refuse t Unlawful) s
  starting t s (Some k) = started_with t s k (store_answer s 0)

  abbrev pub started_by : Here → Configured → ℕ → ℕ → Both
  started_by t s m l =
      cond (long_tables t) (cond t.started (with_config (refuse t Started) s) (starting t s (made m l))) (with_config (refuse t ShortTables) s)

  -- what a call does
  abbrev pub step : Here → Configured → Call M.Command → Both
  step t s (Start m l) = started_by t s m l
  step t s (Order c n x) = with_config (ordered t c n x) s
  step t s (Settle c) = with_config (settled t c) s
  step t s (Hand i c) = with_config (handed t i c) s
