-- Order: the leader makes an entry.
use Rattle.std.proofs.Common.{◌≡◌, ℕ, ◌+◌, ◌*◌, ◌<◌, Bool, true, false, cond, eqb, ltb, List, [], ◌∷◌, ◌++◌, length, get_or, Some, Ok, Err, Result, sym, refl, ap, ◌∙◌, arith}
use Rattle.std.specs.List.{slice_get}
use Rattle.std.proofs.lemmas.Bool.{ltb-true, eq-eqb, ne_eqb}
use Rattle.std.proofs.lemmas.List.{length-set, get_or-set_same, get_or-set_other, append-nil}
use Rattle.std.proofs.lemmas.Map.Keys.{any_passes_from_place}
use Rattle.service.specs.Meant.{Meant, Means}
use Rattle.service.specs.declared.ServiceFault.{ServiceFault}
use Rattle.service.specs.declared.Worked.{Worked}
use Rattle.config.specs.Members.{without}
use Rattle.config.specs.Configured.{Configured}
use Rattle.entries.specs.declared.Entry.{Entry}
use Rattle.entries.specs.Lists.{holds}
use Rattle.machine.specs.declared.controller.Lead.{Lead}
use Rattle.machine.specs.declared.controller.Role.{Role}
use Rattle.machine.specs.declared.controller.Role.TheVariants.{Fresh, Follower, Leader}
use Rattle.machine.specs.declared.envelope.Envelope.{Envelope}
use Rattle.machine.specs.declared.envelope.Message.TheVariants.{Accept}
use Rattle.machine.specs.declared.fault.Fault.TheVariants.{WrongState, SerialTaken, ListFull, BagFull}
use Rattle.machine.specs.Faults.{of_service}
use Rattle.machine.specs.Rows.{longer}
use Rattle.machine.specs.Machine.{Here, at, stretch, space, refuse, grant, ask, put_controller, put_entry, put_speculative, entered, worked_out, led, ordered}
use Rattle.machine.specs.Changes.{order}
use Rattle.protocol.proofs.View.{order as make}
use Rattle.protocol.proofs.Lists.{push_last, prefix_length}
use Rattle.protocol.proofs.OrderKeeps.{order_keeps}
use Rattle.protocol.proofs.Later.{order_later}
use Rattle.law.proofs.Seen.{Sight, Safe, Grown, Seen, first, plays_as}
use Rattle.law.proofs.Tables.{stretch_apart, part_push}
use Rattle.law.proofs.Frames.{asked, past_absence, plays_later, length_list}
use Rattle.law.proofs.Moves.{seen_set, seen_send}
use Rattle.law.proofs.Goals.{Makes, Goes, refused_goes}
use Rattle.law.proofs.Quiet.{present, spaced}

-- a serial that a list does not hold is at none of its places
pub not_held : {U : Type 0} (xs : List (Entry U)) (s k : ℕ) (y : Entry U) → holds xs s ≡ false → slice_get xs k ≡ Some y → y.serial ≡ s → ⊥
not_held xs s k y h n e = let t = any_passes_from_place (λ x. eqb x.serial s) xs k y n (eq-eqb y.serial s e) in let z : true ≡ false = sym t ∙ h in cc

module _ (M : Meant) (means : Means M) where
  -- the floor after an entry, before ACCEPT is sent
  entered_seen : (t : Here M) (s : Configured) (v : Sight M) (c : ℕ) (l : Lead) (e : Entry M.Update) → Safe M v → Seen M t s v → (b : c < 8) → (at M t c).role ≡ Leader l
      → (at M t c).length < 64 → e.epoch ≡ v.epoch c
      → Safe M (make M.applied (first M) v c e)
      → Seen M (put_speculative M (put_entry M (put_controller M t c (longer (at M t c))) (c * 64 + (at M t c).length) e) c (M.next (get_or t.speculative c M.opening) e.update)) s (make M.applied (first M) v c e)
  unfolding make
  entered_seen t s v c l e i z b r room ee safe =
      let k = at M t c in
      let p = z.stands c b in
      let lead = plays_as M t s v c (Leader l) z b r in
      let w = make M.applied (first M) v c e in
      let g : Grown M v w = order_later M.applied (first M) v c e in
      let x = M.next (get_or t.speculative c M.opening) e.update in
      let u = put_speculative M (put_entry M (put_controller M t c (longer k)) (c * 64 + k.length) e) c x in
      let big = z.entries in
      let spec = z.speculative in
      let cc' = eq-eqb c c refl in
      seen_set M t u s v w c (longer k) i g z b refl refl (simp length-set refl)
      (record {
        epoch = p.epoch;
        promise = p.promise;
        room = omega arith;
        list = simp cc' (part_push t.entries (c * 64) k.length e (omega arith) ∙ ap (λ (ys : List (Entry M.Update)). ys ++ e ∷ []) p.list);
        delivered = p.delivered;
        committed = p.committed;
        speculative = λ q pos. simp cc' (ap M.mean (get_or-set_same t.speculative c x M.opening (omega arith)) ∙ means (get_or t.speculative c M.opening) e.update ∙ ap (λ (m : M.Meaning). M.applied m e.update) (p.speculative q pos));
        role = plays_later M v w c i g refl k.role p.role;
      })
      (λ d db n. let t' = ne_eqb d c n in simp (stretch_apart t.entries c d (at M t d).length k.length e n db z.entries (z.stands d db).room room, get_or-set_other t.speculative c d x M.opening n, t') refl)
      z.opened z.short

  -- what the ACCEPT of a new entry says
  accept_says : (t : Here M) (s : Configured) (v : Sight M) (c : ℕ) (l : Lead) (e : Entry M.Update) → Safe M v → Seen M t s v → (b : c < 8) → (at M t c).role ≡ Leader l
      → ((make M.applied (first M) v c e).opened (at M t c).epoch ≡ true) × (slice_get ((make M.applied (first M) v c e).grown (at M t c).epoch) (at M t c).length ≡ Some e)
  unfolding make
  accept_says t s v c l e i z b r =
      let k = at M t c in
      let p = z.stands c b in
      let lead = plays_as M t s v c (Leader l) z b r in
      let q = p.epoch in
      let g = v.grown (v.epoch c) in
      let len : k.length ≡ length g = length_list M t s v c z b ∙ ap length (i.leads c lead.some lead.leads) in
      let te = eq-eqb k.epoch (v.epoch c) q in
      (rw q (i.lives c lead.some), simp te (push_last g e k.length len))

  -- what a granted order makes
  makes : (t : Here M) (s : Configured) (v : Sight M) (c : ℕ) (l : Lead) (e : Entry M.Update) → Safe M v → Seen M t s v → (b : c < 8) → (at M t c).role ≡ Leader l → e.epoch ≡ v.epoch c
      → Makes M v (make M.applied (first M) v c e) c
  unfolding make
  makes t s v c l e i z b r ee =
      let p = z.stands c b in
      let lead = plays_as M t s v c (Leader l) z b r in
      let g = v.grown (v.epoch c) in
      let lg : v.list c ≡ g = i.leads c lead.some lead.leads in
      let tc = eq-eqb c c refl in
      let te = eq-eqb (v.epoch c) (v.epoch c) refl in
      let o = i.lives c lead.some in
      record {
        below = b;
        entry = e;
        list = simp tc;
        epoch = ee;
        opened = o;
        place = simp te (rw lg (push_last g e (length g) refl));
        found = let tl = eq-eqb (length (v.list c)) (length g) (ap length lg) in simp (te, tl);
        after = let q = prefix_length M.applied (first M) (v.opening (v.epoch c)) g (i.grows (v.epoch c) o) in rw lg q;
        leads = lead.leads;
        some = lead.some;
      }

  pub order_goes : (t : Here M) (s : Configured) (v : Sight M) (c n : ℕ) (m : M.Command) → Safe M v → Seen M t s v → Goes M (order c n m) t s v (ordered M t c n m)
  unfolding make
  order_goes t s v c n m i z =
      let no = refused_goes M (order c n m) t s v i z in
      past_absence M (Goes M (order c n m) t s v) t c (led M t c n m (at M t c) (at M t c).role) no λ h.
      by (present t.started t.controllers c h) (at M t c).role refl
    where
      works : c < 8 → (l : Lead) → (at M t c).role ≡ Leader l → (at M t c).length < 64 → holds (stretch t.entries c (at M t c).length) n ≡ false
          → (r : Result (Worked M.Update) ServiceFault) → Goes M (order c n m) t s v (worked_out M t c (at M t c) l n r)
      works b l q room fresh (Err f) = refused_goes M (order c n m) t s v i z (of_service f)
      works b l q room fresh (Ok w) =
          let no = refused_goes M (order c n m) t s v i z in
          let k = at M t c in
          let p = z.stands c b in
          let lead = plays_as M t s v c (Leader l) z b q in
          let e : Entry M.Update = record { epoch = k.epoch; serial = n; update = w.update } in
          let x = M.next (get_or t.speculative c M.opening) w.update in
          let d = grant M w.reply (entered M t c k l e x) in
          asked M (Goes M (order c n m) t s v) t (space t.sent (without l.members c)) BagFull d no λ sp.
          let safe = order_keeps M.applied (first M) v c e i lead.some lead.leads p.epoch
          (λ j y h y_is. not_held (stretch t.entries c k.length) n j y fresh (ap (λ (ys : List (Entry M.Update)). slice_get ys j) p.list ∙ h) y_is) in
          let u = put_speculative M (put_entry M (put_controller M t c (longer k)) (c * 64 + k.length) e) c x in
          let zu = entered_seen t s v c l e i z b q room p.epoch safe in
          let env : Envelope M.Update = record { sender = c; to = without l.members c; message = Accept k.epoch k.length e } in
          record {
            view = make M.applied (first M) v c e;
            to = record {
              safe = safe;
              grown = order_later M.applied (first M) v c e;
              seen = seen_send M u s (make M.applied (first M) v c e) env safe zu (spaced t.sent (without l.members c) sp) (accept_says t s v c l e i z b q);
            };
            fact = record {
              handed = λ d'. sym (append-nil (v.handed d'));
              opened = tt;
              made = λ a r. makes t s v c l e i z b q p.epoch;
              secured = tt;
            };
          }

      by : c < 8 → (r : Role) → (at M t c).role ≡ r → Goes M (order c n m) t s v (led M t c n m (at M t c) r)
      by b Fresh q = refused_goes M (order c n m) t s v i z WrongState
      by b Follower q = refused_goes M (order c n m) t s v i z WrongState
      by b (Leader l) q = fresh_or b l q (holds (stretch t.entries c (at M t c).length) n) refl
        where
          fresh_or : c < 8 → (l : Lead) → (at M t c).role ≡ Leader l → (h : Bool) → holds (stretch t.entries c (at M t c).length) n ≡ h
              → Goes M (order c n m) t s v (cond h (refuse M t SerialTaken) (ask M t (ltb (at M t c).length 64) ListFull (worked_out M t c (at M t c) l n (M.worked (M.mean (get_or t.speculative c M.opening)) m))))
          fresh_or b l q true h = refused_goes M (order c n m) t s v i z SerialTaken
          fresh_or b l q false h =
              asked M (Goes M (order c n m) t s v) t (ltb (at M t c).length 64) ListFull (worked_out M t c (at M t c) l n (M.worked (M.mean (get_or t.speculative c M.opening)) m)) (refused_goes M (order c n m) t s v i z)
              λ room. works b l q (ltb-true (at M t c).length 64 room) h (M.worked (M.mean (get_or t.speculative c M.opening)) m)
