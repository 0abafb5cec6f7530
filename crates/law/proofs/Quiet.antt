-- The calls that leave the view as it is: settle, report, begin, lower, abandon and stop.
use Rattle.std.proofs.Common.{◌≡◌, ℕ, ◌+◌, ◌-◌, ◌*◌, ◌/◌, ◌%◌, ◌^◌, ◌<◌, ◌≤◌, Bool, true, false, cond, not, ◌&&◌, eqb, ltb, ◌⊎◌, List, [], length, get_or, Some, None, Ok, Err, Option, Result, sym, refl, ap, ◌∙◌, subst, inl, inr, one-mul, arith, pow-add}
use native.Mathlib.Nat.{zero-div, add-mul-div_right}
use Rattle.std.proofs.lemmas.Bool.{cases_lt, cases_eq, and_parts, ltb-true, lt-ltb, eqb-true, eqb-false, eq-eqb, not-true}
use Rattle.std.proofs.lemmas.Bool.Decides.{nat_tests}
use Rattle.std.proofs.lemmas.Nat.{shr-shr, pow_pos}
use Rattle.std.proofs.lemmas.List.{append-nil}
use Rattle.service.specs.Meant.{Meant}
use Rattle.config.specs.Members.{member, other, only}
use Rattle.config.specs.Configured.{Configured, last, configuration, no_row}
use Rattle.config.specs.declared.row.ConfigRow.{ConfigRow}
use Rattle.config.specs.declared.row.ConfigFault.{ConfigFault}
use Rattle.config.specs.declared.row.ConfigFault.TheVariants.{NoEpoch, Closed}
use Rattle.machine.specs.declared.controller.Controller.{Controller}
use Rattle.machine.specs.declared.controller.Lead.{Lead}
use Rattle.machine.specs.declared.controller.Role.{Role}
use Rattle.machine.specs.declared.controller.Role.TheVariants.{Fresh, Follower, Leader}
use Rattle.machine.specs.declared.envelope.Envelope.{Envelope}
use Rattle.machine.specs.declared.envelope.Message.{Message}
use Rattle.machine.specs.declared.envelope.Message.TheVariants.{Commit, Probe, Answer}
use Rattle.machine.specs.declared.fault.Fault.{Fault}
use Rattle.machine.specs.declared.fault.Fault.TheVariants.{OutOfRange, WrongState, NothingNew, BagFull, NotAddressed}
use Rattle.machine.specs.declared.seat.Seat.{Seat}
use Rattle.machine.specs.declared.seat.Seat.TheVariants.{Idle, Probing}
use Rattle.machine.specs.Rows.{least, with_role, settled_at, stopped}
use Rattle.machine.proofs.Least.{least_le, least_each}
use Rattle.machine.specs.Machine.{Here, After, at, absent, space, grant, ask, put_controller, put_seat, send, settled, settling, settled_with, in_range, no_envelope}
use Rattle.machine.specs.Faults.{of_config}
use Rattle.machine.specs.Changes.{Act, settle, report, begin, lower, abandon, stop, seat_at, at_seat, stop_of, abandon_of, abandoning, probe, probed_at, begun_at, beginning, begin_of, lowering, lower_of, heard, reported, read_report, report_of}
use Rattle.protocol.proofs.View.{AllHeld, Nos}
use Rattle.law.proofs.Seen.{Sight, Safe, Says, Sits, Plays, Seen, first, plays_as}
use Rattle.law.proofs.Frames.{asked, past_start, past_absence, length_list}
use Rattle.law.specs.Lives.{delivers}
use Rattle.law.proofs.Goals.{Fact, Opened, Made, Secured, Goes, to_same, refused_goes}
use Rattle.law.proofs.Moves.{stands_as, seen_controller, seen_send, seen_post, seen_seat}

-- a controller that is not refused for its absence
pub present : (b : Bool) (ks : List Controller) (c : ℕ) → absent b ks c ≡ None → c < 8
present b ks c h = grind (arith, nat_tests)

-- a set has only controllers below 8
pub member_lt : (m f : ℕ) → member m f ≡ true → f < 8
member_lt m f h = grind (arith, nat_tests)

pub other_from : (m c f : ℕ) → (f ≡ c → ⊥) → member m f ≡ true → other m c f ≡ true
other_from m c f d h = grind (arith, nat_tests)

-- where there is space for what is sent, and it has an addressee, the bag is not full
pub spaced : (n to : ℕ) → space n to ≡ true → eqb to 0 ≡ false → n < 1024
spaced n to h q = grind (arith, nat_tests)

-- what the configuration service answers
pub configuration_row : (s : Configured) (e : ℕ) (k : ConfigRow) → configuration s e ≡ Ok k → k ≡ get_or s.all (e - 1) no_row
configuration_row s e k h = grind (arith, nat_tests)

pub last_row : (s : Configured) (n : ℕ) → last s ≡ Ok n → n ≡ length s.all
last_row s n h = grind (arith, nat_tests)

-- where bit f is not set, adding it changes no other
pub other_bits : (m f h : ℕ) → (h ≡ f → ⊥) → m / 2 ^ f % 2 ≡ 0 → (m + 2 ^ f) / 2 ^ h % 2 ≡ m / 2 ^ h % 2
other_bits m f h d z =
    elim (cases_lt h f) [
      | inl l ↦
          let j = f - h - 1 in
          let e : 2 ^ f ≡ (2 ^ j * 2) * 2 ^ h = ap (λ n. 2 ^ n) (omega arith) ∙ pow-add 2 (j + 1) h ∙ ap (λ n. n * 2 ^ h) (pow-add 2 j 1) in
          rw (e, add-mul-div_right m (2 ^ j * 2) (pow_pos h)) (omega arith)
      | inr g ↦
          let j = h - f - 1 in
          let low : (m + 2 ^ f) / 2 ^ f ≡ m / 2 ^ f + 1 = let s = add-mul-div_right m 1 (pow_pos f) in rw one-mul at s in
          let split : (x : ℕ) → x / 2 ^ h ≡ x / 2 ^ f / 2 / 2 ^ j = λ x. ap (λ n. x / 2 ^ n) (omega arith) ∙ sym (shr-shr x (f + 1) j) ∙ ap (λ n. n / 2 ^ j) (sym (shr-shr x f 1)) in
          let half : (m + 2 ^ f) / 2 ^ f / 2 ≡ m / 2 ^ f / 2 = rw low (omega arith) in
          ap (λ n. n % 2) (split (m + 2 ^ f) ∙ ap (λ n. n / 2 ^ j) half ∙ sym (split m))
    ]

-- a set with one more has that one, and those that it had
pub added : (m f h : ℕ) → f < 8 → member m f ≡ false → member (m + only f) h ≡ true → (h ≡ f) ⊎ (member m h ≡ true)
added m f h b out q =
    let hb = member_lt (m + only f) h q in
    elim (cases_eq h f) [
      | inl e ↦ inl e
      | inr d ↦
          let tf = lt-ltb f 8 b in let th = lt-ltb h 8 hb in
          let zero_bit : m / 2 ^ f % 2 ≡ 0 = let n : eqb (m / 2 ^ f % 2) 1 ≡ false = simp tf at out in let w = eqb-false (m / 2 ^ f % 2) 1 n in omega arith in
          let one_bit : (m + 2 ^ f) / 2 ^ h % 2 ≡ 1 = eqb-true ((m + 2 ^ f) / 2 ^ h % 2) 1 (simp (th, tf) at q) in
          inr (simp th (eq-eqb (m / 2 ^ h % 2) 1 (sym (other_bits m f h d zero_bit) ∙ one_bit)))
    ]

-- what lets a seat go one stage down
pub lowered : (ys : ℕ) (nay : Bool) (g : ℕ) → (eqb ys 0 && (nay && ltb 1 g)) ≡ true → (nay ≡ true) × (1 < g)
lowered ys nay g h = let a = and_parts (eqb ys 0) (nay && ltb 1 g) h in let b = and_parts nay (ltb 1 g) a.1 in (b.0, ltb-true 1 g b.1)

-- the empty set has nobody
pub empty_set : (f : ℕ) → member 0 f ≡ true → ⊥
empty_set f h = let z = zero-div (2 ^ f) in grind (arith, nat_tests)

module _ (M : Meant) where
  -- what a call that delivers, opens, makes and settles nothing did
  still : (a : Act M.Command) (t : Here M) (v : Sight M) (r : Result ℕ Fault) → ((e : ℕ) → delivers M t a r e ≡ []) → Opened M t v v a r → Made M v v a r → Secured M v a r → Fact M t v v a r
  still a t v r none opened made secured = record { handed = λ e. rw (none e) (sym (append-nil (v.handed e))); opened = opened; made = made; secured = secured }

  -- a call that leaves the view as it is
  pub stays : (a : Act M.Command) (t : Here M) (s : Configured) (v : Sight M) (d : After M) → ((e : ℕ) → delivers M t a d.answer e ≡ []) → Opened M t v v a d.answer → Made M v v a d.answer → Secured M v a d.answer
      → Safe M v → Seen M d.after s v → Goes M a t s v d
  stays a t s v d none opened made secured i z = record { view = v; to = to_same M t s v d i z; fact = still a t v d.answer none opened made secured }

  pub stop_goes : (t : Here M) (s : Configured) (v : Sight M) (c : ℕ) → Safe M v → Seen M t s v → Goes M (stop c) t s v (stop_of M t c)
  stop_goes t s v c i z =
      let no = refused_goes M (stop c) t s v i z in
      past_absence M (Goes M (stop c) t s v) t c (grant M 0 (put_controller M t c (stopped (at M t c)))) no λ h.
      let b = present t.started t.controllers c h in
      let p = z.stands c b in
      stays (stop c) t s v (grant M 0 (put_controller M t c (stopped (at M t c)))) (λ _. refl) tt tt tt i (seen_controller M t s v c (stopped (at M t c)) i z b (stands_as M t v c (at M t c) false (at M t c).role p p.role))

  -- past the questions that every seat's call asks
  pub seated : (a : Act M.Command) (t : Here M) (s : Configured) (v : Sight M) (j : ℕ) (d : After M) → Safe M v → Seen M t s v → (j < 4 → Goes M a t s v d) → Goes M a t s v (at_seat M t j d)
  seated a t s v j d i z go =
      let no = refused_goes M a t s v i z in
      past_start M (Goes M a t s v) t (ask M t (ltb j 4) OutOfRange d) no λ _.
      asked M (Goes M a t s v) t (ltb j 4) OutOfRange d no λ h. go (ltb-true j 4 h)

  pub abandon_goes : (t : Here M) (s : Configured) (v : Sight M) (j : ℕ) → Safe M v → Seen M t s v → Goes M (abandon j) t s v (abandon_of M t j)
  abandon_goes t s v j i z = seated (abandon j) t s v j (abandoning M t j (seat_at M t j)) i z (λ b. by b (seat_at M t j))
    where
      by : j < 4 → (x : Seat) → Goes M (abandon j) t s v (abandoning M t j x)
      by b Idle = refused_goes M (abandon j) t s v i z WrongState
      by b (Probing m g ys nay) = stays (abandon j) t s v (grant M 0 (put_seat M t j Idle)) (λ _. refl) tt tt tt i (seen_seat M t s v j Idle i z b tt)

  -- SETTLE: what a leader settles is held by every member
  pub settles : (t : Here M) (s : Configured) (v : Sight M) (c n : ℕ) (l : Lead) → Safe M v → Seen M t s v → c < 8 → (at M t c).role ≡ Leader l → least l c (at M t c).length ≡ Some n
      → AllHeld M.applied (first M) v (v.epoch c) n
  settles t s v c n l i z b r q =
      let p = z.stands c b in
      let k = plays_as M t s v c (Leader l) z b r in
      let le = least_le l c (at M t c).length n q in
      let len : (at M t c).length ≡ length (v.grown (v.epoch c)) = length_list M t s v c z b ∙ ap length (i.leads c k.some k.leads) in
      record {
        opened = i.lives c k.some;
        within = omega arith;
        each = λ f m d.
            let mem : member l.members f ≡ true = k.members f ∙ m in
            let o : other l.members c f ≡ true = other_from l.members c f (λ x. d (x ∙ sym k.leads)) mem in
            let h = least_each l c (at M t c).length n f q (member_lt l.members f mem) o in
            let w = k.told f h.0 h.1 in
            let h2 = h.2 in
            omega arith;
      }

  pub settle_goes : (t : Here M) (s : Configured) (v : Sight M) (c : ℕ) → Safe M v → Seen M t s v → Goes M (settle c) t s v (settled M t c)
  settle_goes t s v c i z =
      let no = refused_goes M (settle c) t s v i z in
      past_absence M (Goes M (settle c) t s v) t c (settling M t c (at M t c) (at M t c).role) no λ h.
      by (present t.started t.controllers c h) (at M t c).role refl
    where
      with_least : c < 8 → (l : Lead) → (at M t c).role ≡ Leader l → (o : Option ℕ) → least l c (at M t c).length ≡ o → Goes M (settle c) t s v (settled_with M t c (at M t c) l o)
      with_least b l r None q = refused_goes M (settle c) t s v i z WrongState
      with_least b l r (Some n) q =
          let no = refused_goes M (settle c) t s v i z in
          let k = at M t c in
          let p = z.stands c b in
          let lead = plays_as M t s v c (Leader l) z b r in
          let e : Envelope M.Update = record { sender = c; to = l.members; message = Commit k.epoch n } in
          let u = put_controller M t c (with_role k (settled_at l n)) in
          let d = grant M n (send M u e) in
          asked M (Goes M (settle c) t s v) t (ltb l.settled n) NothingNew (ask M t (space t.sent l.members) BagFull d) no λ _.
          asked M (Goes M (settle c) t s v) t (space t.sent l.members) BagFull d no λ room.
          let plays : Plays M v c (settled_at l n) = record { some = lead.some; leads = lead.leads; members = lead.members; told = lead.told } in
          let zu = seen_controller M t s v c (with_role k (settled_at l n)) i z b (stands_as M t v c k k.running (settled_at l n) p plays) in
          let held = settles t s v c n l i z b r q in
          stays (settle c) t s v d (λ _. refl) tt tt (λ m a. let same : n ≡ m = cc in rw (sym same) (record { below = b; held = held; leads = lead.leads; some = lead.some }))
          i (seen_send M u s v e i zu (spaced t.sent l.members room) (rw p.epoch held))

      by : c < 8 → (r : Role) → (at M t c).role ≡ r → Goes M (settle c) t s v (settling M t c (at M t c) r)
      by b Fresh r = refused_goes M (settle c) t s v i z WrongState
      by b Follower r = refused_goes M (settle c) t s v i z WrongState
      by b (Leader l) r = with_least b l r (least l c (at M t c).length) refl

  -- a probing seat that sends its PROBE
  pub probes : (a : Act M.Command) (t : Here M) (s : Configured) (v : Sight M) → ((r : Result ℕ Fault) → Fact M t v v a r) → (j n e ans : ℕ) → Safe M v → Seen M t s v → j < 4 → t.sent < 1024 → 1 ≤ e → e < n → e ≤ v.last
      → Nos M.applied (first M) v e n → (r : Result ConfigRow ConfigFault) → configuration s e ≡ r → Goes M a t s v (probed_at M t j n e ans r)
  probes a t s v does j n e ans i z jb room one below le nos (Err f) q = refused_goes M a t s v i z (of_config f)
  probes a t s v does j n e ans i z jb room one below le nos (Ok k) q =
      let u = put_seat M t j (Probing n e 0 false) in
      let env : Envelope M.Update = record { sender = j; to = k.members; message = Probe n e j } in
      let zu = seen_seat M t s v j (Probing n e 0 false) i z jb
      (record { some = one; below = below; stored = le; nos = nos; no_heard = λ h. absurd cc; yes_heard = λ f h. absurd (empty_set f h) }) in
      let row : k ≡ get_or s.all (e - 1) no_row = configuration_row s e k q in
      record {
        view = v;
        to = to_same M t s v (grant M ans (probe M t j n e k)) i (seen_post M u s v env i zu room (one, below, le, nos, λ c m. sym (z.members e c one le) ∙ rw row at m));
        fact = does (Ok ans);
      }

  pub begin_goes : (t : Here M) (s : Configured) (v : Sight M) (j : ℕ) → Safe M v → Seen M t s v → Goes M (begin j) t s v (begin_of M t s j)
  begin_goes t s v j i z = seated (begin j) t s v j (beginning M t s j (seat_at M t j)) i z (λ b. by b (seat_at M t j))
    where
      begun : j < 4 → t.sent < 1024 → (r : Result ℕ ConfigFault) → last s ≡ r → Goes M (begin j) t s v (begun_at M t s j r)
      begun b room (Err f) q = refused_goes M (begin j) t s v i z (of_config f)
      begun b room (Ok n) q =
          let e : n ≡ v.last = last_row s n q ∙ z.last in
          elim (cases_lt 0 n) [
            | inl pos ↦ probes (begin j) t s v (λ r. still (begin j) t v r (λ _. refl) tt tt tt) j (n + 1) n (n + 1) i z b room pos (omega arith) (omega arith) (λ u x y. absurd (omega arith)) (configuration s n) refl
            | inr zero_last ↦ none_stored n (omega arith)
          ]
        where
          closed : (b : Bool) → Goes M (begin j) t s v (probed_at M t j 1 0 1 (cond b (Err NoEpoch) (Err Closed)))
          closed true = refused_goes M (begin j) t s v i z (of_config NoEpoch)
          closed false = refused_goes M (begin j) t s v i z (of_config Closed)

          none_stored : (n : ℕ) → n ≡ 0 → Goes M (begin j) t s v (probed_at M t j (n + 1) n (n + 1) (configuration s n))
          none_stored n q = subst (λ (x : ℕ). Goes M (begin j) t s v (probed_at M t j (x + 1) x (x + 1) (configuration s x))) (sym q) (closed s.is_open)

      by : j < 4 → (x : Seat) → Goes M (begin j) t s v (beginning M t s j x)
      by b Idle =
          let no = refused_goes M (begin j) t s v i z in
          asked M (Goes M (begin j) t s v) t (ltb t.sent 1024) BagFull (begun_at M t s j (last s)) no λ h. begun b (ltb-true t.sent 1024 h) (last s) refl
      by b (Probing m g ys nay) = refused_goes M (begin j) t s v i z WrongState

  pub lower_goes : (t : Here M) (s : Configured) (v : Sight M) (j : ℕ) → Safe M v → Seen M t s v → Goes M (lower j) t s v (lower_of M t s j)
  lower_goes t s v j i z = seated (lower j) t s v j (lowering M t s j (seat_at M t j)) i z (λ b. by b (seat_at M t j) (z.seats j b))
    where
      by : j < 4 → (x : Seat) → Sits M v x → Goes M (lower j) t s v (lowering M t s j x)
      by b Idle sits = refused_goes M (lower j) t s v i z WrongState
      by b (Probing m g ys nay) sits =
          let no = refused_goes M (lower j) t s v i z in
          let d = probed_at M t j m (g - 1) (g - 1) (configuration s (g - 1)) in
          asked M (Goes M (lower j) t s v) t (eqb ys 0 && (nay && ltb 1 g)) WrongState (ask M t (ltb t.sent 1024) BagFull d) no λ ready.
          asked M (Goes M (lower j) t s v) t (ltb t.sent 1024) BagFull d no λ room.
          let low = lowered ys nay g ready in
          let below = sits.below in
          let le = sits.stored in
          let one = low.1 in
          let heard_no = sits.no_heard low.0 in
          probes (lower j) t s v (λ r. still (lower j) t v r (λ _. refl) tt tt tt) j m (g - 1) (g - 1) i z b (ltb-true t.sent 1024 room) (omega arith) (omega arith) (omega arith)
          (λ u x y. elim (cases_eq u g) [ inl q ↦ (heard_no.0, rw q heard_no.1) | inr n ↦ sits.nos u (omega arith) y ])
          (configuration s (g - 1)) refl

  pub report_goes : (t : Here M) (s : Configured) (v : Sight M) (n : ℕ) → Safe M v → Seen M t s v → Goes M (report n) t s v (report_of M t n)
  report_goes t s v n i z =
      let no = refused_goes M (report n) t s v i z in
      let env = get_or t.envelopes n no_envelope in
      past_start M (Goes M (report n) t s v) t (ask M t (ltb n t.sent) OutOfRange (read_report M t env)) no λ _.
      asked M (Goes M (report n) t s v) t (ltb n t.sent) OutOfRange (read_report M t env) no λ sent.
      asked M (Goes M (report n) t s v) t (in_range env.sender env.message) OutOfRange (reported M t env.message) no λ r.
      by env.sender env.to env.message r (z.bag n (ltb-true n t.sent sent))
    where
      hears : (j : ℕ) (y : Bool) (m e f : ℕ) → j < 4 → f < 8 → Says M v 0 (Answer y m e f j) → (x : Seat) → Sits M v x → Goes M (report n) t s v (heard M t j y m e f x)
      hears j y m e f jb fb said Idle sits = refused_goes M (report n) t s v i z WrongState
      hears j true m e f jb fb said (Probing m' g ys nay) sits =
          let no = refused_goes M (report n) t s v i z in
          let x = Probing m' g (ys + only f) nay in
          let d = grant M 1 (put_seat M t j x) in
          asked M (Goes M (report n) t s v) t (eqb m' m) WrongState (ask M t (not (member ys f)) NothingNew d) no λ same.
          asked M (Goes M (report n) t s v) t (not (member ys f)) NothingNew d no λ fresh.
          stays (report n) t s v d (λ _. refl) tt tt tt i (seen_seat M t s v j x i z jb (record {
            some = sits.some;
            below = sits.below;
            stored = sits.stored;
            nos = sits.nos;
            no_heard = sits.no_heard;
            yes_heard = λ h mem. elim (added ys f h fb (not-true (member ys f) fresh) mem) [ inl q ↦ rw (q, eqb-true m' m same) said | inr q ↦ sits.yes_heard h q ];
          }))
      hears j false m e f jb fb said (Probing m' g ys nay) sits =
          let no = refused_goes M (report n) t s v i z in
          let x = Probing m' g ys true in
          let d = grant M 0 (put_seat M t j x) in
          asked M (Goes M (report n) t s v) t (eqb m' m) WrongState (ask M t (eqb e g && not nay) NothingNew d) no λ same.
          asked M (Goes M (report n) t s v) t (eqb e g && not nay) NothingNew d no λ fresh.
          let stage : e ≡ g = eqb-true e g (and_parts (eqb e g) (not nay) fresh).0 in
          stays (report n) t s v d (λ _. refl) tt tt tt i (seen_seat M t s v j x i z jb (record {
            some = sits.some;
            below = sits.below;
            stored = sits.stored;
            nos = sits.nos;
            no_heard = λ h. (f, rw (eqb-true m' m same, sym stage) said);
            yes_heard = sits.yes_heard;
          }))

      by : (sender to : ℕ) (m : Message M.Update) → in_range sender m ≡ true → Says M v to m → Goes M (report n) t s v (reported M t m)
      by sender to (Answer true m e f j) r a = let jb = ltb-true j 4 (and_parts (ltb f 8) (ltb j 4) r).1 in hears j true m e f jb (ltb-true f 8 (and_parts (ltb f 8) (ltb j 4) r).0) a (seat_at M t j) (z.seats j jb)
      by sender to (Answer false m e f j) r a = let jb = ltb-true j 4 (and_parts (ltb f 8) (ltb j 4) r).1 in hears j false m e f jb (ltb-true f 8 (and_parts (ltb f 8) (ltb j 4) r).0) a (seat_at M t j) (z.seats j jb)
      by sender to _ r a = refused_goes M (report n) t s v i z NotAddressed
