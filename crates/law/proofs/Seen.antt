-- A started floor, its tables and its configurations, as a view of the protocol.
use Rattle.std.proofs.Common.{◌≡◌, ℕ, ◌-◌, ◌<◌, ◌≤◌, Bool, true, false, List, length, get_or, Some, None, sym, ◌∙◌, subst, arith}
use Rattle.std.specs.List.{slice_get}
use Rattle.service.specs.Meant.{Meant}
use Rattle.config.specs.Members.{member}
use Rattle.config.specs.Configured.{Configured, no_row}
use Rattle.config.specs.declared.row.ConfigRow.{ConfigRow}
use Rattle.machine.specs.declared.controller.Controller.{Controller}
use Rattle.machine.specs.declared.controller.Lead.{Lead}
use Rattle.machine.specs.declared.controller.Role.{Role}
use Rattle.machine.specs.declared.controller.Role.TheVariants.{Fresh, Follower, Leader}
use Rattle.machine.specs.declared.envelope.Message.{Message}
use Rattle.machine.specs.declared.envelope.Message.TheVariants.{Commit, Accept, Held, Probe, Answer, NewConfig, NewState}
use Rattle.machine.specs.declared.seat.Seat.{Seat}
use Rattle.machine.specs.declared.seat.Seat.TheVariants.{Idle, Probing}
use Rattle.machine.specs.Machine.{Here, at, stretch, opening_of, no_envelope}
use Rattle.protocol.proofs.View.{View, Nos, AllHeld, Fit}
use Rattle.protocol.proofs.Inv.{Inv}
use Rattle.protocol.proofs.Later.{Later, nos_later, fit_later, held_later}

-- whether a floor is started, and the lengths of its tables
pub record Sizes : Type 0 where
  pub started : Bool
  pub controllers : ℕ
  pub seats : ℕ
  pub lengths : ℕ
  pub entries : ℕ
  pub openings : ℕ
  pub committed : ℕ
  pub speculative : ℕ
  pub envelopes : ℕ

-- a started floor's tables have room
pub record Roomy (x : Sizes) : Type 0 where
  pub started : x.started ≡ true
  pub eight : x.controllers ≡ 8
  pub four : x.seats ≡ 4
  pub epochs : x.lengths ≡ 32
  pub entries : 512 ≤ x.entries
  pub openings : 2048 ≤ x.openings
  pub committed : 8 ≤ x.committed
  pub speculative : 8 ≤ x.speculative
  pub envelopes : 1024 ≤ x.envelopes

module _ (M : Meant) where
  -- a view of a floor of this service: its entries' updates, and its states' meanings
  abbrev pub Sight : Type 0
  Sight = View M.Update M.Meaning

  abbrev pub first : M.Meaning
  first = M.mean M.opening

  abbrev pub Safe : Sight → Type 0
  Safe v = Inv M.applied first v

  abbrev pub Grown : Sight → Sight → Type 0
  Grown v w = Later M.applied first v w

  -- what an envelope says, to these addressees
  abbrev pub Says : Sight → ℕ → Message M.Update → Type 0
  Says v to (Commit e n) = AllHeld M.applied first v e n
  Says v to (Accept e k x) = (v.opened e ≡ true) × (slice_get (v.grown e) k ≡ Some x)
  Says v to (Held e h f) = h ≤ v.held e f
  Says v to (Probe n t i) = (1 ≤ t) × (t < n) × (t ≤ v.last) × Nos M.applied first v t n × ((c : ℕ) → member to c ≡ true → v.member t c ≡ true)
  Says v to (Answer true n t f i) = Fit M.applied first v n f
  Says v to (Answer false n t f i) = v.denied n t f ≡ true
  Says v to (NewConfig e m) = (2 ≤ e) × (e ≤ v.last) × ((f : ℕ) → member m f ≡ v.member e f) × ((c : ℕ) → member to c ≡ true → v.leader e ≡ c)
  Says v to (NewState e) = (v.opened e ≡ true) × ((c : ℕ) → member to c ≡ true → (v.member e c ≡ true) × (v.leader e ≡ c → ⊥))

  -- what a seat knows
  pub record Probes (v : Sight) (n g ys : ℕ) (nay : Bool) : Type 0 where
    pub some : 1 ≤ g
    pub below : g < n
    pub stored : g ≤ v.last
    pub nos : Nos M.applied first v g n
    pub no_heard : nay ≡ true → (f : ℕ) × (v.denied n g f ≡ true)
    pub yes_heard : (f : ℕ) → member ys f ≡ true → Fit M.applied first v n f

  abbrev pub Sits : Sight → Seat → Type 0
  Sits v Idle = Unit {0}
  Sits v (Probing n g ys nay) = Probes v n g ys nay

  -- a controller's role
  pub record Leading (v : Sight) (c : ℕ) (l : Lead) : Type 0 where
    pub some : 0 < v.epoch c
    pub leads : v.leader (v.epoch c) ≡ c
    pub members : (f : ℕ) → member l.members f ≡ v.member (v.epoch c) f
    pub told : (f h : ℕ) → get_or l.told f None ≡ Some h → h ≤ v.held (v.epoch c) f

  abbrev pub Plays : Sight → ℕ → Role → Type 0
  Plays v c Fresh = v.epoch c ≡ 0
  Plays v c Follower = (0 < v.epoch c) × (v.leader (v.epoch c) ≡ c → ⊥)
  Plays v c (Leader l) = Leading v c l

  -- one controller, with its list and its states
  pub record Stands (t : Here M) (v : Sight) (c : ℕ) (k : Controller) : Type 0 where
    pub epoch : k.epoch ≡ v.epoch c
    pub promise : k.promise ≡ v.promise c
    pub room : k.length ≤ 64
    pub list : stretch t.entries c k.length ≡ v.list c
    pub delivered : k.delivered ≡ length (v.handed c)
    pub committed : M.mean (get_or t.committed c M.opening) ≡ v.committed c
    pub speculative : v.leader (v.epoch c) ≡ c → 0 < v.epoch c → M.mean (get_or t.speculative c M.opening) ≡ v.speculative c
    pub role : Plays v c k.role

  abbrev pub sizes : Here M → Sizes
  sizes t = record {
    started = t.started;
    controllers = length t.controllers;
    seats = length t.seats;
    lengths = length t.lengths;
    entries = length t.entries;
    openings = length t.openings;
    committed = length t.committed;
    speculative = length t.speculative;
    envelopes = length t.envelopes;
  }

  -- the configurations that are stored
  pub record Stored (all : List ConfigRow) (room : ℕ) (v : Sight) : Type 0 where
    pub last : length all ≡ v.last
    pub some : 1 ≤ v.last
    pub limit : room ≤ 32
    pub most : v.last ≤ 32
    pub members : (e f : ℕ) → 1 ≤ e → e ≤ v.last → member (get_or all (e - 1) no_row).members f ≡ v.member e f
    pub leader : (e : ℕ) → 1 ≤ e → e ≤ v.last → (get_or all (e - 1) no_row).leader ≡ v.leader e

  pub record Seen (t : Here M) (s : Configured) (v : Sight) : Type 0 where
    pub roomy : Roomy (sizes t)
    pub open roomy use *
    pub few : t.sent ≤ 1024
    pub stands : (c : ℕ) → c < 8 → Stands t v c (at M t c)
    pub stored : Stored s.all s.limit v
    pub open stored use *
    pub opened : (e : ℕ) → v.opened e ≡ true → opening_of t.openings e (get_or t.lengths (e - 1) 0) ≡ v.opening e
    pub short : (e : ℕ) → v.opened e ≡ true → get_or t.lengths (e - 1) 0 ≤ 64
    pub bag : (i : ℕ) → i < t.sent → Says v (get_or t.envelopes i no_envelope).to (get_or t.envelopes i no_envelope).message
    pub seats : (i : ℕ) → i < 4 → Sits v (get_or t.seats i Idle)

  -- what a controller's role says, by its kind
  pub plays_as : (t : Here M) (s : Configured) (v : Sight) (c : ℕ) (r : Role) → Seen t s v → c < 8 → (at M t c).role ≡ r → Plays v c r
  plays_as t s v c r z b q = subst (λ (x : Role). Plays v c x) q (z.stands c b).role

  -- what was said stays true
  pub says_later : (v w : Sight) → Safe v → Grown v w → (to : ℕ) (m : Message M.Update) → Says v to m → Says w to m
  says_later v w i l to (Commit e n) a = held_later M.applied first v w i l e n a
  says_later v w i l to (Accept e k x) a = (l.opened e a.0, l.grown e a.0 k x a.1)
  says_later v w i l to (Held e h f) a = let q = l.held e f in omega arith
  says_later v w i l to (Probe n t s) a =
      let q = l.last in let a2 = a.2 in
      (a.0, a.1, omega arith, nos_later M.applied first v w l t n a.3, λ c m. l.member t c a.0 a.2 ∙ a.4 c m)
  says_later v w i l to (Answer true n t f s) a = fit_later M.applied first v w l n f a
  says_later v w i l to (Answer false n t f s) a = l.denied n t f a
  says_later v w i l to (NewConfig e m) a =
      let q = l.last in let a0 = a.0 in let a1 = a.1 in
      let one : 1 ≤ e = omega arith in
      (a.0, omega arith, λ f. a.2 f ∙ sym (l.member e f one a.1), λ c h. l.leader e one a.1 ∙ a.3 c h)
  says_later v w i l to (NewState e) a =
      let o = i.opens e a.0 in
      (l.opened e a.0, λ c h. let p = a.1 c h in (l.member e c o.0 o.1 ∙ p.0, λ q. p.1 (sym (l.leader e o.0 o.1) ∙ q)))

  pub sits_later : (v w : Sight) → Grown v w → (s : Seat) → Sits v s → Sits w s
  sits_later v w l Idle a = tt
  sits_later v w l (Probing n g ys nay) a = record {
    some = a.some;
    below = a.below;
    stored = let q = l.last in let a2 = a.stored in omega arith;
    nos = nos_later M.applied first v w l g n a.nos;
    no_heard = λ h. let d = a.no_heard h in (d.0, l.denied n g d.0 d.1);
    yes_heard = λ f h. fit_later M.applied first v w l n f (a.yes_heard f h);
  }
