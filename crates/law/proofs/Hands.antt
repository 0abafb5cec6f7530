-- Hand of COMMIT, ACCEPT, HELD and PROBE.
use Rattle.std.proofs.Common.{◌≡◌, ℕ, ◌+◌, ◌-◌, ◌*◌, ◌<◌, ◌≤◌, Bool, true, false, ltb, leb, List, [], ◌∷◌, ◌++◌, length, get_or, take, drop, set, Some, None, sym, refl, ap, ◌∙◌, inl, inr, arith}
use Rattle.std.specs.List.{slice_get}
use Rattle.std.proofs.lemmas.Bool.{cases_lt, cases_eq, ltb-true, lt-ltb, leb-true, leb-false, eq-eqb, ne_eqb}
use Rattle.std.proofs.lemmas.List.{length-set, get_or-set_same, get_or-set_other, set_past, length-take-le, take-take, drop-take, drop-drop}
use Rattle.std.proofs.lemmas.List.Folds.{fold_along}
use Rattle.service.specs.Meant.{Meant, Means}
use Rattle.config.specs.Members.{member, only}
use Rattle.config.specs.Configured.{Configured}
use Rattle.entries.specs.declared.Entry.{Entry}
use Rattle.machine.specs.declared.controller.Lead.{Lead}
use Rattle.machine.specs.declared.controller.Role.{Role}
use Rattle.machine.specs.declared.controller.Role.TheVariants.{Fresh, Follower, Leader}
use Rattle.machine.specs.declared.envelope.Envelope.{Envelope}
use Rattle.machine.specs.declared.envelope.Message.TheVariants.{Held, Probe, Answer}
use Rattle.machine.specs.Rows.{longer, delivered_to, with_role, told_to, promised as promising, reach, takes_part}
use Rattle.machine.specs.Machine.{Here, at, part, run, grant, put_controller, put_entry, put_committed, delivered, accepted, told, probed}
use Rattle.protocol.proofs.View.{AllHeld, fold, deliver, accept, promised}
use Rattle.protocol.proofs.DeliverKeeps.{deliver_keeps}
use Rattle.protocol.proofs.AcceptKeeps.{accept_keeps}
use Rattle.protocol.proofs.PromisedKeeps.{promised_keeps}
use Rattle.protocol.proofs.Later.{deliver_later, accept_later, promised_later}
use Rattle.law.proofs.Seen.{Sight, Safe, Grown, Says, Plays, Seen, first, says_later, plays_as}
use Rattle.law.proofs.Tables.{stretch_apart, part_push}
use Rattle.law.proofs.Frames.{plays_later, length_list}
use Rattle.law.proofs.Moves.{stands_as, seen_set, seen_controller, seen_send, seen_post}
use Rattle.law.proofs.Goals.{To, to_same}

-- how far a COMMIT reaches lies between what is delivered and what it says
pub reach_most : (n d : ℕ) → reach n d ≤ n
reach_most n d = omega arith

pub reach_least : (n d : ℕ) → d < n → d ≤ reach n d
reach_least n d h = omega arith

-- the places from d to r of a list that lies in a stretch
pub part_of_list : {A : Type 0} (es : List A) (a d r len : ℕ) → d ≤ r → r ≤ len → take (r - d) (drop (a + d) es) ≡ drop d (take r (take len (drop a es)))
part_of_list {A} es a d r len dr rl =
    ap (λ (ys : List A). take (r - d) ys) (sym (drop-drop d a es))
    ∙ sym (drop-take d (r - d) (drop a es)) ∙ ap (λ (n : ℕ). drop d (take n (drop a es))) (omega arith)
    ∙ ap (drop d) (sym (take-take r len (drop a es) rl))

module _ (M : Meant) (means : Means M) where
  -- what a list of entries makes of a row means what it makes of the row's meaning
  pub run_means : (x : M.Row) (es : List (Entry M.Update)) → M.mean (run M x es) ≡ fold M.applied (first M) (M.mean x) es
  run_means x es =
      fold_along (λ y e. M.next y e.update) (λ m e. M.applied m e.update) (λ y m. M.mean y ≡ m)
      (λ y m e q. means y e.update ∙ ap (λ (n : M.Meaning). M.applied n e.update) q) x (M.mean x) es refl

  -- a controller that takes part in an epoch is in it
  pub in_epoch : (v : Sight M) (c : ℕ) (r : Role) → takes_part r ≡ true → Plays M v c r → 0 < v.epoch c
  in_epoch v c Fresh h p = absurd cc
  in_epoch v c Follower h p = p.0
  in_epoch v c (Leader l) h p = p.some

  -- less of what is held by all is held by all
  pub held_less : (v : Sight M) (e n r : ℕ) → AllHeld M.applied (first M) v e n → r ≤ n → AllHeld M.applied (first M) v e r
  held_less v e n r a h = record {
    opened = a.opened;
    within = let w = a.within in omega arith;
    each = λ f m d. let w = a.each f m d in omega arith;
  }

  pub commit_goes : (t : Here M) (s : Configured) (v : Sight M) (c r e n : ℕ) → Safe M v → Seen M t s v → c < 8 → takes_part (at M t c).role ≡ true → (at M t c).epoch ≡ e
      → (at M t c).delivered ≤ r → r ≤ n → n ≤ (at M t c).length → AllHeld M.applied (first M) v e n
      → To M t s v (delivered M t c (at M t c) r) (deliver M.applied (first M) v c r)
  unfolding deliver
  commit_goes t s v c r e n i z b part_in ep low mid high held =
      let k = at M t c in
      let p = z.stands c b in
      let pos = in_epoch v c k.role part_in p.role in
      let wide = z.committed in
      let del = p.delivered in
      let ep' : v.epoch c ≡ e = sym p.epoch ∙ ep in
      let len = length_list M t s v c z b in
      let held' : AllHeld M.applied (first M) v (v.epoch c) r = rw ep' (held_less v e n r held mid) in
      let w = deliver M.applied (first M) v c r in
      let safe = deliver_keeps M.applied (first M) v c r i pos (omega arith) (omega arith) held' in
      let g : Grown M v w = deliver_later M.applied (first M) v c r i (omega arith) in
      let old = get_or t.committed c M.opening in
      let es = part t.entries c k.delivered (r - k.delivered) in
      let x = run M old es in
      let u = put_committed M (put_controller M t c (delivered_to k r)) c x in
      let tc = eq-eqb c c refl in
      let es_is : es ≡ drop (length (v.handed c)) (take r (v.list c)) =
      part_of_list t.entries (c * 64) k.delivered r k.length low (omega arith) ∙ ap (λ (ys : List (Entry M.Update)). drop k.delivered (take r ys)) p.list ∙ ap (λ (m : ℕ). drop m (take r (v.list c))) del in
      record {
        safe = safe;
        grown = g;
        seen = seen_set M t u s v w c (delivered_to k r) i g z b refl refl (simp length-set refl)
            (record {
              epoch = p.epoch;
              promise = p.promise;
              room = p.room;
              list = p.list;
              delivered = simp tc (sym (length-take-le r (v.list c) (omega arith)));
              committed = simp tc (ap M.mean (get_or-set_same t.committed c x M.opening (omega arith)) ∙ run_means old es ∙ ap (λ (m : M.Meaning). fold M.applied (first M) m es) p.committed ∙ ap (fold M.applied (first M) (v.committed c)) es_is);
              speculative = p.speculative;
              role = plays_later M v w c i g refl k.role p.role;
            })
            (λ d db ne. let td = ne_eqb d c ne in simp (get_or-set_other t.committed c d x M.opening ne, td) refl)
            z.opened z.short;
      }

  pub accept_goes : (t : Here M) (s : Configured) (v : Sight M) (c sender e p : ℕ) (x : Entry M.Update) → Safe M v → Seen M t s v → c < 8 → (at M t c).role ≡ Follower → (at M t c).epoch ≡ e
      → p ≡ (at M t c).length → (at M t c).length < 64 → t.sent < 1024 → slice_get (v.grown e) p ≡ Some x
      → To M t s v (grant M 0 (accepted M t c (at M t c) sender e p x)) (accept M.applied (first M) v c x)
  unfolding accept
  accept_goes t s v c sender e p x i z b role ep pl room sent there =
      let k = at M t c in
      let st = z.stands c b in
      let follower = plays_as M t s v c Follower z b role in
      let big = z.entries in
      let q = st.epoch in
      let ep' : v.epoch c ≡ e = sym q ∙ ep in
      let len = length_list M t s v c z b in
      let there' : slice_get (v.grown (v.epoch c)) (length (v.list c)) ≡ Some x = ap (λ (n : ℕ). slice_get (v.grown n) (length (v.list c))) ep' ∙ ap (slice_get (v.grown e)) (sym (pl ∙ len)) ∙ there in
      let w = accept M.applied (first M) v c x in
      let safe = accept_keeps M.applied (first M) v c x i follower.0 follower.1 there' in
      let g : Grown M v w = accept_later M.applied (first M) v c x i in
      let u = put_entry M (put_controller M t c (longer k)) (c * 64 + k.length) x in
      let tc = eq-eqb c c refl in
      let env : Envelope M.Update = record { sender = c; to = only sender; message = Held e (p + 1) c } in
      let te = eq-eqb e (v.epoch c) (sym ep') in
      let zu = seen_set M t u s v w c (longer k) i g z b refl refl (simp length-set refl)
      (record {
        epoch = st.epoch;
        promise = st.promise;
        room = omega arith;
        list = simp tc (part_push t.entries (c * 64) k.length x (omega arith) ∙ ap (λ (ys : List (Entry M.Update)). ys ++ x ∷ []) st.list);
        delivered = st.delivered;
        committed = st.committed;
        speculative = st.speculative;
        role = plays_later M v w c i g refl k.role st.role;
      })
      (λ d db ne. let td = ne_eqb d c ne in simp (stretch_apart t.entries c d (at M t d).length k.length x ne db z.entries (z.stands d db).room room, td) refl)
      z.opened z.short in
      record {
        safe = safe;
        grown = g;
        seen = seen_send M u s w env safe zu (λ _. sent) (simp (te, tc) (omega arith));
      }

  pub held_goes : (t : Here M) (s : Configured) (v : Sight M) (c e h f : ℕ) (l : Lead) → Safe M v → Seen M t s v → c < 8 → (at M t c).role ≡ Leader l → (at M t c).epoch ≡ e → h ≤ v.held e f
      → To M t s v (grant M 0 (told M t c (at M t c) f h)) v
  held_goes t s v c e h f l i z b role ep said =
      let k = at M t c in
      let st = z.stands c b in
      let lead = plays_as M t s v c (Leader l) z b role in
      let ep' : v.epoch c ≡ e = sym st.epoch ∙ ep in
      let role' : Plays M v c (told_to k.role f h) = rw role (record {
        some = lead.some;
        leads = lead.leads;
        members = lead.members;
        told = λ g n q. elim (cases_eq g f) [
          | inl w ↦ elim (cases_lt f (length l.told)) [
            | inl lt ↦ let x = get_or-set_same l.told f (Some h) None lt in let y : get_or (set l.told f (Some h)) f None ≡ Some n = rw w at q in let hn : h ≡ n = cc in rw (w, ep') (omega arith)
            | inr ge ↦ lead.told g n (rw (set_past l.told f (Some h) ge) at q)
          ]
          | inr d ↦ lead.told g n (sym (get_or-set_other l.told f g (Some h) None d) ∙ q)
        ];
      }) in
      to_same M t s v (grant M 0 (told M t c k f h)) i (seen_controller M t s v c (with_role k (told_to k.role f h)) i z b (stands_as M t v c k k.running (told_to k.role f h) st role'))

  -- the answer to a PROBE says what is true of the controller that gives it
  answer_says : (v w : Sight M) (c n e j : ℕ) (y : Bool) → Grown M v w → (y ≡ true → Says M v 0 (Answer true n e c j)) → (y ≡ false → w.denied n e c ≡ true) → Safe M v → Says M w 0 (Answer y n e c j)
  answer_says v w c n e j true g a d i = says_later M v w i g 0 (Answer true n e c j) (a refl)
  answer_says v w c n e j false g a d i = d refl

  pub probe_goes : (t : Here M) (s : Configured) (v : Sight M) (c n e j to : ℕ) → Safe M v → Seen M t s v → c < 8 → (at M t c).promise ≤ n → t.sent < 1024 → member to c ≡ true → Says M v to (Probe n e j)
      → To M t s v (grant M 0 (probed M t c (at M t c) n e j)) (promised M.applied (first M) v c (ltb (v.epoch c) e) e n)
  unfolding promised
  probe_goes t s v c n e j to i z b low sent mem said =
      let k = at M t c in
      let st = z.stands c b in
      let pr = st.promise in
      let ep = st.epoch in
      let no_here = ltb (v.epoch c) e in
      let w = promised M.applied (first M) v c no_here e n in
      let safe = promised_keeps M.applied (first M) v c no_here e n i (omega arith)
      (λ h. (said.0, said.1, said.2, said.4 c mem, ltb-true (v.epoch c) e h)) in
      let g : Grown M v w = promised_later M.applied (first M) v c no_here e n in
      let u = put_controller M t c (promising k n) in
      let tc = eq-eqb c c refl in
      let tn = eq-eqb n n refl in
      let te = eq-eqb e e refl in
      let env : Envelope M.Update = record { sender = c; to = 0; message = Answer (leb e k.epoch) n e c j } in
      let zu = seen_set M t u s v w c (promising k n) i g z b refl refl (simp length-set refl)
      (record {
        epoch = st.epoch;
        promise = simp tc;
        room = st.room;
        list = st.list;
        delivered = st.delivered;
        committed = st.committed;
        speculative = st.speculative;
        role = plays_later M v w c i g refl k.role st.role;
      })
      (λ d db ne. let td = ne_eqb d c ne in simp td refl)
      z.opened z.short in
      record {
        safe = safe;
        grown = g;
        seen = seen_post M u s w env safe zu sent
            (answer_says v w c n e j (leb e k.epoch) g
            (λ y. (e, said.0, said.1, said.3, rw st.epoch at (leb-true e k.epoch y)))
            (λ y. let lt = leb-false e k.epoch y in let tb = lt-ltb (v.epoch c) e (rw st.epoch at lt) in simp (tn, te, tc, tb))
            i);
      }
