-- Every life of a floor is seen, moment by moment.
use Rattle.std.proofs.Common.{◌≡◌, ℕ, zero, suc, ◌≤◌, Bool, true, false, cond, ltb, List, [], ◌∷◌, ◌++◌, take, Some, None, sym, refl, ap, ◌∙◌, subst, inl, inr, arith}
use Rattle.std.specs.List.{slice_get}
use Rattle.std.proofs.Math.Seq.{take-nil}
use Rattle.std.proofs.lemmas.List.{append-nil, append_assoc}
use Rattle.service.specs.Meant.{Meant, Means}
use Rattle.config.specs.Made.{made}
use Rattle.config.specs.Configured.{Configured, Kept}
use Rattle.entries.specs.declared.Entry.{Entry}
use Rattle.machine.specs.declared.controller.Controller.{Controller}
use Rattle.machine.specs.declared.fault.Fault.{Fault}
use Rattle.machine.specs.declared.fault.Fault.TheVariants.{ShortTables, NotStarted, OutOfRange}
use Rattle.machine.specs.Machine.{Here, After, at, absent, long_tables, refuse, ask, unless, with_config, ordered, led, settled, settling, handed}
use Rattle.machine.specs.Changes.{Act, start, order, settle, hand, report, begin, lower, propose, abandon, stop, act, report_of, begin_of, lower_of, abandon_of, stop_of, proposal, propose_of}
use Rattle.protocol.proofs.Later.{later_same, later_chain}
use Rattle.protocol.proofs.BeginKeeps.{idle_inv}
use Rattle.law.specs.Lives.{World, New, Call, opening, outcome, next, end, moment, delivers, delivered}
use Rattle.law.proofs.Seen.{Sight, Safe, Grown, Seen, first}
use Rattle.law.proofs.Goals.{Fact}
use Rattle.law.proofs.Frames.{past_start, past_absence}
use Rattle.law.proofs.Quiet.{stop_goes, abandon_goes, settle_goes, begin_goes, lower_goes, report_goes}
use Rattle.law.proofs.Orders.{order_goes}
use Rattle.law.proofs.Calls.{hand_goes}
use Rattle.law.proofs.Starts.{nothing, nothing_idle, Known, Leads, refusal_leads, asks_leads, goes_leads, propose_leads, start_leads, start_again}

pub not_absent : (b : Bool) (ks : List Controller) (c : ℕ) → b ≡ false → absent b ks c ≡ None → ⊥
not_absent true ks c q h = cc
not_absent false ks c q h = cc

module _ (M : Meant) where
  -- a floor that is not started refuses every call but start
  abbrev Refused : Here M → After M → Type 0
  Refused t d = (g : Fault) × (d ≡ refuse M t g)

  at_no_controller : (t : Here M) (c : ℕ) (d : After M) → t.started ≡ false → Refused t (ask M t (long_tables M t) ShortTables (unless M t (absent t.started t.controllers c) d))
  at_no_controller t c d n =
      past_absence M (Refused t) t c d (λ g. (g, refl)) λ h. absurd (not_absent t.started t.controllers c n h)

  not_started : (t : Here M) (d : After M) → t.started ≡ false → Refused t (ask M t (long_tables M t) ShortTables (ask M t t.started NotStarted d))
  not_started t d n =
      past_start M (Refused t) t d (λ g. (g, refl)) λ h. absurd cc

  refused_leads : (a : Act M.Command) (t : Here M) (s : Configured) (v : Sight M) (d : After M) → Known M t s v → Refused t d → Leads M a t v (with_config M d s)
  refused_leads a t s v d k (g, q) = subst (λ (x : After M). Leads M a t v (with_config M x s)) (sym q) (refusal_leads M a t s v k g)

  propose_refused : (t : Here M) (s : Configured) (v : Sight M) (j m l : ℕ) → Known M t s v → t.started ≡ false → Leads M (propose j m l) t v (propose_of M t s j m l)
  propose_refused t s v j m l k n =
      let d = cond (ltb j 4) (proposal M t s j (made m l)) (with_config M (refuse M t OutOfRange) s) in
      asks_leads M (propose j m l) t s v k (long_tables M t) (cond t.started d (with_config M (refuse M t NotStarted) s)) ShortTables λ _.
      asks_leads M (propose j m l) t s v k t.started d NotStarted λ h. absurd cc

  pub idle_leads : (t : Here M) (s : Configured) → New M t → Kept s → (a : Act M.Command) → Leads M a t (nothing M) (act M t s a)
  idle_leads t s n k (start m l) = start_leads M t s m l n k
  idle_leads t s n k (order c i x) = refused_leads (order c i x) t s (nothing M) (ordered M t c i x) (inl (n, k, refl)) (at_no_controller t c (led M t c i x (at M t c) (at M t c).role) n.started)
  idle_leads t s n k (settle c) = refused_leads (settle c) t s (nothing M) (settled M t c) (inl (n, k, refl)) (at_no_controller t c (settling M t c (at M t c) (at M t c).role) n.started)
  idle_leads t s n k (hand i c) = refused_leads (hand i c) t s (nothing M) (handed M t i c) (inl (n, k, refl)) (not_started t _ n.started)
  idle_leads t s n k (report i) = refused_leads (report i) t s (nothing M) (report_of M t i) (inl (n, k, refl)) (not_started t _ n.started)
  idle_leads t s n k (begin j) = refused_leads (begin j) t s (nothing M) (begin_of M t s j) (inl (n, k, refl)) (not_started t _ n.started)
  idle_leads t s n k (lower j) = refused_leads (lower j) t s (nothing M) (lower_of M t s j) (inl (n, k, refl)) (not_started t _ n.started)
  idle_leads t s n k (propose j m l) = propose_refused t s (nothing M) j m l (inl (n, k, refl)) n.started
  idle_leads t s n k (abandon j) = refused_leads (abandon j) t s (nothing M) (abandon_of M t j) (inl (n, k, refl)) (not_started t _ n.started)
  idle_leads t s n k (stop c) = refused_leads (stop c) t s (nothing M) (stop_of M t c) (inl (n, k, refl)) (at_no_controller t c _ n.started)

  -- the service opens or closes
  opening_known : (t : Here M) (s : Configured) (v : Sight M) (o : Bool) → Known M t s v → Known M t (opening M s o) v
  opening_known t s v o (inl (n, k, q)) = inl (n, record { some = k.some; most = k.most; fits = k.fits; lawfully = k.lawfully }, q)
  opening_known t s v o (inr (i, z)) = inr (i, record { roomy = z.roomy; few = z.few; stands = z.stands; stored = z.stored; opened = z.opened; short = z.short; bag = z.bag; seats = z.seats })

  pub known_safe : (t : Here M) (s : Configured) (v : Sight M) → Known M t s v → Safe M v
  known_safe t s v (inl (n, k, q)) = subst (λ (x : Sight M). Safe M x) (sym q) (idle_inv M.applied (first M) (nothing M) (nothing_idle M))
  known_safe t s v (inr (i, z)) = i

module _ (M : Meant) (means : Means M) where
  seen_leads : (t : Here M) (s : Configured) (v : Sight M) → Safe M v → Seen M t s v → (a : Act M.Command) → Leads M a t v (act M t s a)
  seen_leads t s v i z (start m l) = start_again M t s v m l i z
  seen_leads t s v i z (order c n x) = goes_leads M _ t s v _ (order_goes M means t s v c n x i z)
  seen_leads t s v i z (settle c) = goes_leads M _ t s v _ (settle_goes M t s v c i z)
  seen_leads t s v i z (hand n c) = goes_leads M _ t s v _ (hand_goes M means t s v n c i z)
  seen_leads t s v i z (report n) = goes_leads M _ t s v _ (report_goes M t s v n i z)
  seen_leads t s v i z (begin j) = goes_leads M _ t s v _ (begin_goes M t s v j i z)
  seen_leads t s v i z (lower j) = goes_leads M _ t s v _ (lower_goes M t s v j i z)
  seen_leads t s v i z (propose j m l) = propose_leads M t s v j m l i z
  seen_leads t s v i z (abandon j) = goes_leads M _ t s v _ (abandon_goes M t s v j i z)
  seen_leads t s v i z (stop c) = goes_leads M _ t s v _ (stop_goes M t s v c i z)

  -- every call, granted or refused, on a floor that is new or seen
  pub act_leads : (t : Here M) (s : Configured) (v : Sight M) → Known M t s v → (a : Act M.Command) → Leads M a t v (act M t s a)
  act_leads t s v (inl (n, k, q)) a = subst (λ (x : Sight M). Leads M a t x (act M t s a)) (sym q) (idle_leads M t s n k a)
  act_leads t s v (inr (i, z)) a = seen_leads t s v i z a

  pub call_leads : (w : World M) (v : Sight M) → Known M w.floor w.config v → (k : Call M) → Leads M k.made w.floor v (outcome M w k)
  call_leads w v h k = act_leads w.floor (opening M w.config k.is_open) v (opening_known M w.floor w.config v k.is_open h) k.made

  -- a life with a view of each of its moments
  pub record Story (w : World M) (v : Sight M) (ks : List (Call M)) : Type 0 where
    pub view : ℕ → Sight M
    pub start_view : view 0 ≡ v
    pub known : (i : ℕ) → Known M (moment M w ks i).floor (moment M w ks i).config (view i)
    pub grown : (i j : ℕ) → i ≤ j → Grown M (view i) (view j)
    pub fact : (i : ℕ) (k : Call M) → slice_get ks i ≡ Some k → Fact M (moment M w ks i).floor (view i) (view (suc i)) k.made (outcome M (moment M w ks i) k).answer
    pub after : (i : ℕ) (k : Call M) → slice_get ks i ≡ Some k → Known M (outcome M (moment M w ks i) k).after (outcome M (moment M w ks i) k).config (view (suc i))
    pub told : (i d : ℕ) → (view i).handed d ≡ v.handed d ++ delivered M w (take i ks) d

  abbrev shifted : {A : Type 0} → A → (ℕ → A) → ℕ → A
  shifted x f zero = x
  shifted x f (suc i) = f i

  pub story : (w : World M) (v : Sight M) (ks : List (Call M)) → Known M w.floor w.config v → Story w v ks
  story w v [] h = record {
    view = λ i. v;
    start_view = refl;
    known = λ i. subst (λ (xs : List (Call M)). Known M (end M w xs).floor (end M w xs).config v) (sym (take-nil i)) h;
    grown = λ i j l. later_same M.applied (first M) v;
    fact = λ i k q. absurd cc;
    after = λ i k q. absurd cc;
    told = λ i d. sym (ap (λ (xs : List (Call M)). v.handed d ++ delivered M w xs d) (take-nil i) ∙ append-nil (v.handed d));
  }
  story w v (k ∷ ks) h =
      let g = call_leads w v h k in
      let r = story (next M w k) g.view ks g.known in
      record {
        view = shifted v r.view;
        start_view = refl;
        known = knows r.view r.known;
        grown = grows r.view (subst (λ (x : Sight M). Grown M v x) (sym r.start_view) g.grown) r.grown;
        fact = facts r.view (subst (λ (x : Sight M). Fact M w.floor v x k.made (outcome M w k).answer) (sym r.start_view) g.fact) r.fact;
        after = afters r.view (subst (λ (x : Sight M). Known M (outcome M w k).after (outcome M w k).config x) (sym r.start_view) g.known) r.after;
        told = tellings r.view g.view g.fact.handed r.told;
      }
    where
      knows : (f : ℕ → Sight M) → ((i : ℕ) → Known M (moment M (next M w k) ks i).floor (moment M (next M w k) ks i).config (f i))
          → (i : ℕ) → Known M (moment M w (k ∷ ks) i).floor (moment M w (k ∷ ks) i).config (shifted v f i)
      knows f p zero = h
      knows f p (suc i) = p i

      grows : (f : ℕ → Sight M) → Grown M v (f 0) → ((i j : ℕ) → i ≤ j → Grown M (f i) (f j)) → (i j : ℕ) → i ≤ j → Grown M (shifted v f i) (shifted v f j)
      grows f p q zero zero l = later_same M.applied (first M) v
      grows f p q zero (suc j) l = later_chain M.applied (first M) v (f 0) (f j) p (q 0 j (omega arith))
      grows f p q (suc i) zero l = absurd (omega arith)
      grows f p q (suc i) (suc j) l = q i j (omega arith)

      facts : (f : ℕ → Sight M) → Fact M w.floor v (f 0) k.made (outcome M w k).answer
          → ((i : ℕ) (x : Call M) → slice_get ks i ≡ Some x → Fact M (moment M (next M w k) ks i).floor (f i) (f (suc i)) x.made (outcome M (moment M (next M w k) ks i) x).answer)
          → (i : ℕ) (x : Call M) → slice_get (k ∷ ks) i ≡ Some x → Fact M (moment M w (k ∷ ks) i).floor (shifted v f i) (f i) x.made (outcome M (moment M w (k ∷ ks) i) x).answer
      facts f p q zero x e = let y : k ≡ x = cc in subst (λ (x : Call M). Fact M w.floor v (f 0) x.made (outcome M w x).answer) y p
      facts f p q (suc i) x e = q i x e

      afters : (f : ℕ → Sight M) → Known M (outcome M w k).after (outcome M w k).config (f 0)
          → ((i : ℕ) (x : Call M) → slice_get ks i ≡ Some x → Known M (outcome M (moment M (next M w k) ks i) x).after (outcome M (moment M (next M w k) ks i) x).config (f (suc i)))
          → (i : ℕ) (x : Call M) → slice_get (k ∷ ks) i ≡ Some x → Known M (outcome M (moment M w (k ∷ ks) i) x).after (outcome M (moment M w (k ∷ ks) i) x).config (f i)
      afters f p q zero x e = let y : k ≡ x = cc in subst (λ (x : Call M). Known M (outcome M w x).after (outcome M w x).config (f 0)) y p
      afters f p q (suc i) x e = q i x e

      tellings : (f : ℕ → Sight M) (u : Sight M) → ((d : ℕ) → u.handed d ≡ v.handed d ++ delivers M w.floor k.made (outcome M w k).answer d)
          → ((i d : ℕ) → (f i).handed d ≡ u.handed d ++ delivered M (next M w k) (take i ks) d)
          → (i d : ℕ) → (shifted v f i).handed d ≡ v.handed d ++ delivered M w (take i (k ∷ ks)) d
      tellings f u p q zero d = sym (append-nil (v.handed d))
      tellings f u p q (suc i) d =
          let one = delivers M w.floor k.made (outcome M w k).answer d in
          let rest = delivered M (next M w k) (take i ks) d in
          q i d ∙ ap (λ (xs : List (Entry M.Update)). xs ++ rest) (p d) ∙ append_assoc (v.handed d) one rest
