-- What a call leaves as it was is seen as it was.
use Rattle.std.proofs.Common.{◌≡◌, ℕ, ◌+◌, ◌*◌, ◌<◌, Bool, true, false, List, length, get_or, set, Some, None, Option, sym, refl, ap, ◌∙◌, inl, inr, arith}
use Rattle.std.proofs.lemmas.Bool.{cases_lt}
use Rattle.service.specs.Meant.{Meant}
use Rattle.config.specs.Configured.{Configured}
use Rattle.entries.specs.declared.Entry.{Entry}
use Rattle.machine.specs.declared.controller.Controller.{Controller}
use Rattle.machine.specs.declared.controller.Role.{Role}
use Rattle.machine.specs.declared.controller.Role.TheVariants.{Fresh, Follower, Leader}
use Rattle.machine.specs.declared.envelope.Envelope.{Envelope}
use Rattle.machine.specs.declared.fault.Fault.{Fault}
use Rattle.machine.specs.declared.fault.Fault.TheVariants.{ShortTables, NotStarted}
use Rattle.machine.specs.declared.seat.Seat.{Seat}
use Rattle.machine.specs.declared.seat.Seat.TheVariants.{Idle}
use Rattle.machine.specs.Machine.{Here, After, at, stretch, absent, long_tables, no_envelope, refuse, ask, unless}
use Rattle.law.proofs.Seen.{Sight, Safe, Grown, Says, Sits, Plays, Stands, Seen, says_later, sits_later}
use Rattle.law.proofs.Tables.{set_at, length_part}

module _ (M : Meant) where
  -- a question is answered no, or yes
  pub asked : (P : After M → Type 0) (t : Here M) (b : Bool) (f : Fault) (d : After M) → ((g : Fault) → P (refuse M t g)) → (b ≡ true → P d) → P (ask M t b f d)
  asked P t true f d no_case yes_case = yes_case refl
  asked P t false f d no_case yes_case = no_case f

  pub unrefused : (P : After M → Type 0) (t : Here M) (o : Option Fault) (d : After M) → ((g : Fault) → P (refuse M t g)) → (o ≡ None → P d) → P (unless M t o d)
  unrefused P t None d no_case yes_case = yes_case refl
  unrefused P t (Some f) d no_case yes_case = no_case f

  -- past the first questions: are the tables long enough, is the floor started, and is there such a controller, running?
  pub past_start : (P : After M → Type 0) (t : Here M) (d : After M) → ((g : Fault) → P (refuse M t g)) → (t.started ≡ true → P d) → P (ask M t (long_tables M t) ShortTables (ask M t t.started NotStarted d))
  past_start P t d no_case yes_case =
      asked P t (long_tables M t) ShortTables (ask M t t.started NotStarted d) no_case λ _. asked P t t.started NotStarted d no_case yes_case

  pub past_absence : (P : After M → Type 0) (t : Here M) (c : ℕ) (d : After M) → ((g : Fault) → P (refuse M t g)) → (absent t.started t.controllers c ≡ None → P d)
      → P (ask M t (long_tables M t) ShortTables (unless M t (absent t.started t.controllers c) d))
  past_absence P t c d no_case yes_case =
      asked P t (long_tables M t) ShortTables (unless M t (absent t.started t.controllers c) d) no_case λ _.
      unrefused P t (absent t.started t.controllers c) d no_case yes_case

  -- a controller's list is as long as the controller says
  pub length_list : (t : Here M) (s : Configured) (v : Sight M) (c : ℕ) → Seen M t s v → c < 8 → (at M t c).length ≡ length (v.list c)
  length_list t s v c z b =
      let p = z.stands c b in
      let big = z.entries in
      let room = p.room in
      sym (length_part t.entries (c * 64) (at M t c).length (omega arith)) ∙ ap length p.list

  -- a controller that stays in its epoch finds its configuration as it was
  pub home_leader : (v w : Sight M) (d : ℕ) → Safe M v → Grown M v w → w.epoch d ≡ v.epoch d → 0 < v.epoch d → w.leader (w.epoch d) ≡ v.leader (v.epoch d)
  home_leader v w d i l e pos = let o = i.opens (v.epoch d) (i.lives d pos) in ap w.leader e ∙ l.leader (v.epoch d) o.0 o.1

  pub home_member : (v w : Sight M) (d f : ℕ) → Safe M v → Grown M v w → w.epoch d ≡ v.epoch d → 0 < v.epoch d → w.member (w.epoch d) f ≡ v.member (v.epoch d) f
  home_member v w d f i l e pos = let o = i.opens (v.epoch d) (i.lives d pos) in ap (λ x. w.member x f) e ∙ l.member (v.epoch d) f o.0 o.1

  pub plays_later : (v w : Sight M) (d : ℕ) → Safe M v → Grown M v w → w.epoch d ≡ v.epoch d → (r : Role) → Plays M v d r → Plays M w d r
  plays_later v w d i l e Fresh a = e ∙ a
  plays_later v w d i l e Follower a = (rw e a.0, λ q. a.1 (sym (home_leader v w d i l e a.0) ∙ q))
  plays_later v w d i l e (Leader k) a = record {
    some = rw e a.some;
    leads = home_leader v w d i l e a.some ∙ a.leads;
    members = λ f. a.members f ∙ sym (home_member v w d f i l e a.some);
    told = λ f h q. let p = a.told f h q in let r = l.held (v.epoch d) f in rw e (omega arith);
  }

  -- the parts of a view and of the tables that belong to one controller, with its first n entries
  pub record Part : Type 0 where
    pub entries : List (Entry M.Update)
    pub committed : M.Row
    pub speculative : M.Row
    pub epoch : ℕ
    pub promise : ℕ
    pub list : List (Entry M.Update)
    pub handed : List (Entry M.Update)
    pub meant : M.Meaning
    pub guessed : M.Meaning

  abbrev pub part_of : Here M → Sight M → ℕ → ℕ → Part
  part_of t v d n = record {
    entries = stretch t.entries d n;
    committed = get_or t.committed d M.opening;
    speculative = get_or t.speculative d M.opening;
    epoch = v.epoch d;
    promise = v.promise d;
    list = v.list d;
    handed = v.handed d;
    meant = v.committed d;
    guessed = v.speculative d;
  }

  abbrev pub Alike : Here M → Here M → Sight M → Sight M → ℕ → ℕ → Type 0
  Alike t u v w d n = part_of u w d n ≡ part_of t v d n

  pub stands_later : (t u : Here M) (v w : Sight M) (d : ℕ) (k : Controller) → Safe M v → Grown M v w → Alike t u v w d k.length → Stands M t v d k → Stands M u w d k
  stands_later t u v w d k i l a s =
      let epoch : w.epoch d ≡ v.epoch d = ap (λ (x : Part). x.epoch) a in
      record {
        epoch = s.epoch ∙ sym epoch;
        promise = s.promise ∙ sym (ap (λ (x : Part). x.promise) a);
        room = s.room;
        list = ap (λ (x : Part). x.entries) a ∙ s.list ∙ sym (ap (λ (x : Part). x.list) a);
        delivered = s.delivered ∙ ap (λ (x : Part). length x.handed) (sym a);
        committed = ap (λ (x : Part). M.mean x.committed) a ∙ s.committed ∙ sym (ap (λ (x : Part). x.meant) a);
        speculative = λ q z.
            let z' : 0 < v.epoch d = rw epoch at z in
            ap (λ (x : Part). M.mean x.speculative) a ∙ s.speculative (sym (home_leader v w d i l epoch z') ∙ q) z' ∙ sym (ap (λ (x : Part). x.guessed) a);
        role = plays_later v w d i l epoch k.role s.role;
      }

  -- the bag, with nothing or one envelope more
  pub bag_later : (t : Here M) (s : Configured) (v w : Sight M) → Safe M v → Grown M v w → Seen M t s v → (i : ℕ) → i < t.sent
      → Says M w (get_or t.envelopes i no_envelope).to (get_or t.envelopes i no_envelope).message
  bag_later t s v w i l z n h = let e = get_or t.envelopes n no_envelope in says_later M v w i l e.to e.message (z.bag n h)

  pub bag_more : (t : Here M) (s : Configured) (v w : Sight M) (e : Envelope M.Update) → Safe M v → Grown M v w → Seen M t s v → t.sent < 1024 → Says M w e.to e.message
      → (i : ℕ) → i < t.sent + 1 → Says M w (get_or (set t.envelopes t.sent e) i no_envelope).to (get_or (set t.envelopes t.sent e) i no_envelope).message
  bag_more t s v w e i l z room good n h =
      let b = z.envelopes in
      elim (set_at t.envelopes t.sent n e no_envelope (omega arith)) [
        | inl p ↦ rw p.1 good
        | inr p ↦ rw p.1 (bag_later t s v w i l z n (let q = p.0 in elim (cases_lt n t.sent) [ inl x ↦ x | inr x ↦ absurd (q (omega arith)) ]))
      ]

  pub seats_later : (t : Here M) (s : Configured) (v w : Sight M) → Grown M v w → Seen M t s v → (i : ℕ) → i < 4 → Sits M w (get_or t.seats i Idle)
  seats_later t s v w l z i h = sits_later M v w l (get_or t.seats i Idle) (z.seats i h)

  pub seats_set : (t : Here M) (s : Configured) (v w : Sight M) (j : ℕ) (x : Seat) → Grown M v w → Seen M t s v → j < 4 → Sits M w x → (i : ℕ) → i < 4 → Sits M w (get_or (set t.seats j x) i Idle)
  seats_set t s v w j x l z jb good i h =
      let b = z.four in
      elim (set_at t.seats j i x Idle (omega arith)) [ inl p ↦ rw p.1 good | inr p ↦ rw p.1 (seats_later t s v w l z i h) ]
