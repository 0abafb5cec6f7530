-- A call that touches one controller, seen before and after.
use Rattle.std.proofs.Common.{◌≡◌, ℕ, ◌-◌, ◌<◌, ◌≤◌, Bool, true, false, eqb, List, get_or, set, sym, refl, ap, ◌∙◌, subst, inl, inr, arith}
use Rattle.std.proofs.lemmas.Bool.{cases_Bool}
use Rattle.std.proofs.lemmas.List.{length-set}
use Rattle.service.specs.Meant.{Meant}
use Rattle.config.specs.Configured.{Configured}
use Rattle.machine.specs.declared.controller.Controller.{Controller}
use Rattle.machine.specs.declared.controller.Role.{Role}
use Rattle.machine.specs.declared.envelope.Envelope.{Envelope}
use Rattle.machine.specs.declared.seat.Seat.{Seat}
use Rattle.machine.specs.declared.seat.Seat.TheVariants.{Idle}
use Rattle.machine.specs.Rows.{no_controller}
use Rattle.machine.specs.Machine.{Here, at, opening_of, no_envelope, put_controller, put_seat, post, send}
use Rattle.protocol.proofs.Later.{later_same}
use Rattle.law.proofs.Seen.{Sight, Safe, Grown, Says, Sits, Plays, Stands, Seen, sizes, first}
use Rattle.law.proofs.Frames.{Alike, stands_later, bag_later, bag_more, seats_later, seats_set}
use Rattle.law.proofs.Tables.{set_at}

module _ (M : Meant) where
  pub seen_by : (t u : Here M) (s : Configured) (v w : Sight M) → Safe M v → Grown M v w → Seen M t s v → w.last ≡ v.last → sizes M u ≡ sizes M t → u.sent ≤ 1024
      → ((c : ℕ) → c < 8 → Stands M u w c (at M u c))
      → ((e : ℕ) → w.opened e ≡ true → opening_of u.openings e (get_or u.lengths (e - 1) 0) ≡ w.opening e)
      → ((e : ℕ) → w.opened e ≡ true → get_or u.lengths (e - 1) 0 ≤ 64)
      → ((i : ℕ) → i < u.sent → Says M w (get_or u.envelopes i no_envelope).to (get_or u.envelopes i no_envelope).message)
      → ((i : ℕ) → i < 4 → Sits M w (get_or u.seats i Idle))
      → Seen M u s w
  seen_by t u s v w i l z last same few stands opened short bag seats = record {
    roomy = rw same z.roomy;
    few = few;
    stands = stands;
    stored = record {
      last = z.last ∙ sym last;
      some = rw last z.some;
      limit = z.limit;
      most = rw last z.most;
      members = λ e f a b. z.members e f a (rw last at b) ∙ sym (l.member e f a (rw last at b));
      leader = λ e a b. z.leader e a (rw last at b) ∙ sym (l.leader e a (rw last at b));
    };
    opened = opened;
    short = short;
    bag = bag;
    seats = seats;
  }

  -- a controller stopped, or in another role
  pub stands_as : (t : Here M) (v : Sight M) (c : ℕ) (k : Controller) (b : Bool) (r : Role) → Stands M t v c k → Plays M v c r → Stands M t v c (record k { running = b; role = r })
  stands_as t v c k b r p plays = record {
    epoch = p.epoch;
    promise = p.promise;
    room = p.room;
    list = p.list;
    delivered = p.delivered;
    committed = p.committed;
    speculative = p.speculative;
    role = plays;
  }

  -- one controller exchanged
  pub stands_set : (t u : Here M) (s : Configured) (v w : Sight M) (c : ℕ) (k : Controller) → Safe M v → Grown M v w → Seen M t s v → c < 8
      → u.controllers ≡ set t.controllers c k → Stands M u w c k
      → ((d : ℕ) → d < 8 → (d ≡ c → ⊥) → Alike M t u v w d (at M t d).length)
      → (d : ℕ) → d < 8 → Stands M u w d (at M u d)
  stands_set t u s v w c k i l z cb e here there d db =
      let b = z.eight in
      elim (set_at t.controllers c d k no_controller (omega arith)) [
        | inl p ↦
            let q : at M u d ≡ k = ap (λ (ks : List Controller). get_or ks d no_controller) e ∙ p.1 in
            subst (λ (x : Controller). Stands M u w d x) (sym q) (subst (λ (x : ℕ). Stands M u w x k) (sym p.0) here)
        | inr p ↦
            let q : at M u d ≡ at M t d = ap (λ (ks : List Controller). get_or ks d no_controller) e ∙ p.1 in
            subst (λ (x : Controller). Stands M u w d x) (sym q) (stands_later M t u v w d (at M t d) i l (there d db p.0) (z.stands d db))
      ]

  -- one controller exchanged, with nothing sent and every seat as it was
  pub seen_set : (t u : Here M) (s : Configured) (v w : Sight M) (c : ℕ) (k : Controller) → Safe M v → Grown M v w → Seen M t s v → c < 8
      → u ≡ record u { controllers = set t.controllers c k; seats = t.seats; sent = t.sent; envelopes = t.envelopes } → w.last ≡ v.last → sizes M u ≡ sizes M t
      → Stands M u w c k → ((d : ℕ) → d < 8 → (d ≡ c → ⊥) → Alike M t u v w d (at M t d).length)
      → ((e : ℕ) → w.opened e ≡ true → opening_of u.openings e (get_or u.lengths (e - 1) 0) ≡ w.opening e)
      → ((e : ℕ) → w.opened e ≡ true → get_or u.lengths (e - 1) 0 ≤ 64)
      → Seen M u s w
  seen_set t u s v w c k i l z cb only last same here there opened short =
      let u' : Here M = record u { controllers = set t.controllers c k; seats = t.seats; sent = t.sent; envelopes = t.envelopes } in
      subst (λ (x : Here M). Seen M x s w) (sym only)
      (seen_by t u' s v w i l z last (sym (ap (sizes M) only) ∙ same) z.few
      (stands_set t u' s v w c k i l z cb refl (subst (λ (x : Here M). Stands M x w c k) only here) there)
      opened short (bag_later M t s v w i l z) (seats_later M t s v w l z))

  -- a controller exchanged for one that stands in the same view
  pub seen_controller : (t : Here M) (s : Configured) (v : Sight M) (c : ℕ) (k : Controller) → Safe M v → Seen M t s v → c < 8 → Stands M t v c k → Seen M (put_controller M t c k) s v
  seen_controller t s v c k i z cb here =
      let u = put_controller M t c k in
      let l = later_same M.applied (first M) v in
      seen_set t u s v v c k i l z cb refl refl (simp length-set refl) (stands_later M t u v v c k i l refl here) (λ d db n. refl) z.opened z.short

  -- an envelope posted, or sent where it has an addressee
  pub seen_post : (t : Here M) (s : Configured) (v : Sight M) (e : Envelope M.Update) → Safe M v → Seen M t s v → t.sent < 1024 → Says M v e.to e.message → Seen M (post M t e) s v
  seen_post t s v e i z room good =
      let u = post M t e in
      let l = later_same M.applied (first M) v in
      seen_by t u s v v i l z refl
      (simp length-set refl) (omega arith)
      (λ c cb. stands_later M t u v v c (at M t c) i l refl (z.stands c cb))
      z.opened z.short (bag_more M t s v v e i l z room good) z.seats

  pub seen_send : (t : Here M) (s : Configured) (v : Sight M) (e : Envelope M.Update) → Safe M v → Seen M t s v → (eqb e.to 0 ≡ false → t.sent < 1024) → Says M v e.to e.message → Seen M (send M t e) s v
  seen_send t s v e i z room good =
      elim (cases_Bool (eqb e.to 0)) [ inl q ↦ rw q z | inr q ↦ rw q (seen_post t s v e i z (room q) good) ]

  -- a seat exchanged
  pub seen_seat : (t : Here M) (s : Configured) (v : Sight M) (j : ℕ) (x : Seat) → Safe M v → Seen M t s v → j < 4 → Sits M v x → Seen M (put_seat M t j x) s v
  seen_seat t s v j x i z jb good =
      let u = put_seat M t j x in
      let l = later_same M.applied (first M) v in
      seen_by t u s v v i l z refl
      (simp length-set refl) z.few
      (λ c cb. stands_later M t u v v c (at M t c) i l refl (z.stands c cb))
      z.opened z.short z.bag (seats_set M t s v v j x l z jb good)
