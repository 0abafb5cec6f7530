-- The three facts, from the views of a life.
use Rattle.std.proofs.Common.{◌≡◌, ℕ, suc, ◌+◌, ◌<◌, ◌≤◌, true, ◌&&◌, eqb, ltb, List, [], ◌∷◌, ◌++◌, length, get_or, take, drop, Some, Ok, Err, Result, sym, refl, ap, ◌∙◌, subst, inl, inr, arith}
use Rattle.std.specs.List.{slice_get}
use Rattle.std.proofs.lemmas.Bool.{cases_lt, cases_Bool, eqb-true, ltb-true, and_parts}
use Rattle.std.proofs.Math.Seq.{take-append_seam}
use Rattle.std.proofs.lemmas.List.{append_assoc, length-append, append_cancel_left}
use Rattle.std.proofs.lemmas.List.Sums.{fold-append}
use Rattle.service.specs.Meant.{Meant, Means}
use Rattle.config.specs.Configured.{Configured}
use Rattle.std.proofs.lemmas.Option.{slice_get_within, slice_get-get_or}
use Rattle.entries.specs.declared.Entry.{Entry}
use Rattle.machine.specs.declared.fault.Fault.{Fault}
use Rattle.machine.specs.declared.fault.Fault.TheVariants.{OutOfRange}
use Rattle.machine.specs.Machine.{Here, After, at, no_envelope, ask, settled, handed, handed_over}
use Rattle.machine.specs.Changes.{Act, order, settle, hand, act}
use Rattle.protocol.proofs.View.{Prefix, fold}
use Rattle.protocol.proofs.Lists.{nth_append, take_tells, prefix_split, append_keeps}
use Rattle.protocol.proofs.Follows.{key, Back, back}
use Rattle.protocol.proofs.Later.{held_later}
use Rattle.law.specs.Lives.{World, Call, opening, outcome, moment, holds, delivers, delivered}
use Rattle.law.specs.Safety.{Begins, Agree, Stays, Matches, Law}
use Rattle.law.proofs.Seen.{Sight, Safe, Seen, first}
use Rattle.law.proofs.Goals.{Fact, Makes, OpensWith, Settled}
use Rattle.law.proofs.Frames.{asked, past_start}
use Rattle.law.proofs.Quiet.{settle_goes}
use Rattle.law.proofs.Hands.{run_means}
use Rattle.law.proofs.Starts.{nothing, Known}
use Rattle.law.proofs.Lived.{idle_leads, known_safe, Story, story}

-- a list with an entry is not empty
not_nil : {A B : Type 0} (xs : List A) (y : A) (ys : List A) → [] ≡ xs ++ y ∷ ys → B
not_nil xs y ys q = absurd (omega (arith, ap length q, length-append xs (y ∷ ys)))

module _ (M : Meant) where
  abbrev Pre : List (Entry M.Update) → List (Entry M.Update) → Type 0
  Pre a b = Prefix M.applied (first M) a b

  pre_begins : (a b : List (Entry M.Update)) → Pre a b → Begins a b
  pre_begins a b h = (drop (length a) b, prefix_split M.applied (first M) a b h)

  -- two beginnings of one list: the shorter begins the longer
  pre_both : (a b g : List (Entry M.Update)) → Pre a g → Pre b g → length a ≤ length b → Pre a b
  pre_both a b g p q l k x h =
      let w = slice_get_within a k x h in
      let y = slice_get-get_or b k x (omega arith) in
      y ∙ sym (q k _ y) ∙ p k x h

  -- what two controllers delivered lies in one list
  common : (v : Sight M) → Safe M v → (c d : ℕ) → (g : List (Entry M.Update)) × Pre (v.handed c) g × Pre (v.handed d) g
  common v i c d = elim (i.kept c) [
    | inl z ↦ (v.handed d, (λ k x h. let w = slice_get_within (v.handed c) k x h in absurd (omega arith)), λ k x h. h)
    | inr (e, le, a, p) ↦ elim (i.kept d) [
      | inl z ↦ (v.handed c, (λ k x h. h), λ k x h. let w = slice_get_within (v.handed d) k x h in absurd (omega arith))
      | inr (e', le', a', p') ↦ elim (cases_lt e e') [
        | inl lt ↦ (v.grown e', (λ k x h. i.grows e' a'.opened k x (key M.applied (first M) v i e (length (v.handed c)) e' a a'.opened lt k x (slice_get_within (v.handed c) k x h) (p k x h))), p')
        | inr ge ↦ elim (cases_lt e' e) [
          | inl lt ↦ (v.grown e, p, λ k x h. i.grows e a.opened k x (key M.applied (first M) v i e' (length (v.handed d)) e a' a.opened lt k x (slice_get_within (v.handed d) k x h) (p' k x h)))
          | inr ge' ↦ let q : e ≡ e' = omega arith in (v.grown e', (λ k x h. ap (λ (n : ℕ). slice_get (v.grown n) k) (sym q) ∙ p k x h), p')
        ]
      ]
    ]
  ]

  -- what follows where a call answers n
  abbrev Grants : ℕ → Type 0 → After M → Type 0
  Grants n A d = d.answer ≡ Ok n → A

  -- what a granted settle says
  settle_granted : (t : Here M) (s : Configured) (v : Sight M) (c n : ℕ) → Known M t s v → (settled M t c).answer ≡ Ok n → Settled M v c n
  settle_granted t s v c n (inl (new, k, q)) granted = subst (λ (x : Sight M). Settled M x c n) (sym q) ((idle_leads M t s new k (settle c)).fact.secured n granted)
  settle_granted t s v c n (inr (i, z)) granted = (settle_goes M t s v c i z).fact.secured n granted

  -- only a controller of a started floor delivers
  hand_below : (t : Here M) (n c a : ℕ) → (handed M t n c).answer ≡ Ok a → (c < 8) × (t.started ≡ true)
  hand_below t n c a =
      let env = get_or t.envelopes n no_envelope in
      let d = handed_over M t c (at M t c) env in
      past_start M (Grants a ((c < 8) × (t.started ≡ true))) t (ask M t (ltb c 8 && ltb n t.sent) OutOfRange d) (λ g q. absurd cc) λ on.
      asked M (Grants a ((c < 8) × (t.started ≡ true))) t (ltb c 8 && ltb n t.sent) OutOfRange d (λ g q. absurd cc) λ h _. (ltb-true c 8 (and_parts (ltb c 8) (ltb n t.sent) h).0, on)

  hand_delivers : (t : Here M) (n c d : ℕ) (a : List (Entry M.Update)) (x : Entry M.Update) (b : List (Entry M.Update)) (r : Result ℕ Fault) → (handed M t n c).answer ≡ r → delivers M t (hand n c) r d ≡ a ++ x ∷ b → (d < 8) × (t.started ≡ true)
  hand_delivers t n c d a x b (Err f) q h = not_nil a x b h
  hand_delivers t n c d a x b (Ok m) q h =
      elim (cases_Bool (eqb d c)) [
        | inl e ↦ let on = hand_below t n c m q in let lt = on.0 in let y = eqb-true d c e in (omega arith, on.1)
        | inr e ↦ not_nil a x b (simp e at h)
      ]

  delivers_below : (t : Here M) (s : Configured) (k : Act M.Command) (d : ℕ) (a : List (Entry M.Update)) (x : Entry M.Update) (b : List (Entry M.Update)) → delivers M t k (act M t s k).answer d ≡ a ++ x ∷ b → (d < 8) × (t.started ≡ true)
  delivers_below t s (hand n c) d a x b h = hand_delivers t n c d a x b (handed M t n c).answer refl h
  delivers_below t s _ d a x b h = not_nil a x b h

module _ (M : Meant) (means : Means M) (w : World M) (ks : List (Call M)) (y : Story M means w (nothing M) ks) where
  safe : (i : ℕ) → Safe M (y.view i)
  safe i = known_safe M (moment M w ks i).floor (moment M w ks i).config (y.view i) (y.known i)

  -- what was delivered by the moment i
  lists : (i d : ℕ) → (y.view i).handed d ≡ delivered M w (take i ks) d
  lists i d = y.told i d

  agree_both : (i j c d : ℕ) → length (delivered M w (take i ks) c) ≤ length (delivered M w (take j ks) d) → Begins (delivered M w (take i ks) c) (delivered M w (take j ks) d)
  agree_both i j c d l =
      let n = i + j in
      let g = common M (y.view n) (safe n) c d in
      let p = (y.grown i n (omega arith)).handed c in
      let q = (y.grown j n (omega arith)).handed d in
      let one = (y.view i).handed c in
      let two = (y.view j).handed d in
      let l' : length one ≤ length two = rw (lists i c, lists j d) l in
      let r = pre_both M one two g.0 (λ k x h. g.1 k x (p k x h)) (λ k x h. g.2 k x (q k x h)) l' in
      let b : Begins one two = pre_begins M one two r in
      subst (λ (a : List (Entry M.Update)). Begins a (delivered M w (take j ks) d)) (lists i c) (subst (λ (a : List (Entry M.Update)). Begins one a) (lists j d) b)

  agree_own : (i c : ℕ) → c < 8 → Begins (delivered M w (take i ks) c) (holds M (moment M w ks i).floor c)
  agree_own i c b = elim (y.known i) [
    | inl (n, k, q) ↦ subst (λ (a : List (Entry M.Update)). Begins a (holds M (moment M w ks i).floor c)) (sym (ap (λ (u : Sight M). u.handed c) q) ∙ lists i c) (holds M (moment M w ks i).floor c, refl)
    | inr (s, z) ↦
        let o = pre_begins M ((y.view i).handed c) ((y.view i).list c) (s.own c) in
        subst (λ (a : List (Entry M.Update)). Begins a (holds M (moment M w ks i).floor c)) (lists i c)
        (subst (λ (a : List (Entry M.Update)). Begins ((y.view i).handed c) a) (sym ((z.stands c b).list)) o)
  ]

  agrees : Agree M w ks
  agrees = ((λ i j c d cb db l. agree_both i j c d l), agree_own)

  -- a granted call that a life makes, by its kind
  fact_of : (i : ℕ) (k : Call M) (a : Act M.Command) → slice_get ks i ≡ Some k → k.made ≡ a → Fact M (moment M w ks i).floor (y.view i) (y.view (suc i)) a (outcome M (moment M w ks i) k).answer
  fact_of i k a t q = subst (λ (x : Act M.Command). Fact M (moment M w ks i).floor (y.view i) (y.view (suc i)) x (outcome M (moment M w ks i) k).answer) q (y.fact i k t)

  -- a floor of which something is seen has been started
  seen_floor : {t : Here M} {s : Configured} {v : Sight M} → Known M t s v → 1 ≤ v.last → Seen M t s v
  seen_floor (inl (n, k, q)) l = absurd (omega (arith, ap (λ (u : Sight M). u.last) q))
  seen_floor (inr (i, z)) l = z

  seen_opened : {t : Here M} {s : Configured} {v : Sight M} → Known M t s v → (e : ℕ) → v.opened e ≡ true → Seen M t s v
  seen_opened {t} {s} {v} k e o = let r = (known_safe M t s v k).opens e o in seen_floor k (omega (arith, r.0, r.1))

  seen_started : {t : Here M} {s : Configured} {v : Sight M} → Known M t s v → t.started ≡ true → Seen M t s v
  seen_started (inl (n, k, q)) l = absurd (let a = n.started in cc)
  seen_started (inr (i, z)) l = z

  stays : Stays M w ks
  stays i j c d e e' xs ys p q lt =
      let v = y.view i in
      let t = (moment M w ks i).floor in
      let s = settle_granted M t (moment M w ks i).config v c p.count (y.known i) (rw p.made at p.granted) in
      let o : OpensWith M (y.view j) (y.view (suc j)) d e' = (fact_of j q.call (hand q.envelope d) q.there q.made).opened q.answer e' q.members q.granted q.says in
      let n = i + suc j in
      let u = y.view n in
      let gi = y.grown i n (omega arith) in
      let gj = y.grown (suc j) n (omega arith) in
      let si = safe i in
      let zi = seen_opened (y.known i) (v.epoch c) s.held.opened in
      let st = zi.stands c s.below in
      let ep : e ≡ v.epoch c = p.epoch ∙ st.epoch in
      let lt' : v.epoch c < e' = rw ep at lt in
      let zj = seen_opened (y.after j q.call q.there) e' o.opened in
      let ys_is : ys ≡ u.opening e' =
      q.list ∙ (zj.stands d o.below).list ∙ o.list ∙ sym o.opening ∙ sym (gj.opening e' o.opened) in
      let held = held_later M.applied (first M) v u si gi (v.epoch c) p.count s.held in
      let xs_is : xs ≡ take p.count (v.grown (v.epoch c)) = p.list ∙ ap (λ (a : List (Entry M.Update)). take p.count a) (st.list ∙ si.leads c s.some s.leads) in
      let pre : Prefix M.applied (first M) (take p.count (v.grown (v.epoch c))) (u.opening e') = λ k x h.
      elim (take_tells p.count (v.grown (v.epoch c)) k) [
        | inl (a, b) ↦ key M.applied (first M) u (safe n) (v.epoch c) p.count e' held (gj.opened e' o.opened) lt' k x b (gi.grown (v.epoch c) s.held.opened k x (sym a ∙ h))
        | inr (a, b) ↦ absurd cc
      ] in
      rw (xs_is, ys_is) (pre_begins M (take p.count (v.grown (v.epoch c))) (u.opening e') pre)

  -- an entry that was made at place k of epoch q is found at that place alone, after the list that it was made after
  found_at : (n q k p e : ℕ) (x : Entry M.Update) (before : List (Entry M.Update)) (m : M.Meaning) → x.epoch ≡ q → (y.view n).opened q ≡ true → slice_get ((y.view n).grown q) k ≡ Some x → (y.view n).found q k ≡ m
      → (y.view n).opened e ≡ true → Prefix M.applied (first M) (before ++ x ∷ []) ((y.view n).grown e) → m ≡ fold M.applied (first M) (first M) before
  found_at n q k p e x before m xe oq at_k fd oe pre =
      let v = y.view n in
      let i = safe n in
      let len = length before in
      let here : slice_get (v.grown e) len ≡ Some x = pre len x (nth_append before x []) in
      let b = back M.applied (first M) v i e len x oe here in
      let b' : Back M.applied (first M) v e len q = subst (λ (z : ℕ). Back M.applied (first M) v e len z) xe b in
      let there : slice_get (v.grown q) len ≡ Some x = b'.alike len x (omega arith) here in
      let same : len ≡ k = i.serials q len k x x oq there at_k refl in
      let within = slice_get_within (v.grown q) len x there in
      let made_in = i.made q len oq b'.after within in
      let pre_q : Prefix M.applied (first M) before (v.grown q) = λ j z h.
      let l = slice_get_within before j z h in
      b'.alike j z (omega arith) (pre j z (append_keeps before (x ∷ []) z j h)) in
      let cut : take len (v.grown q) ≡ before = ap (λ (a : List (Entry M.Update)). take len a) (prefix_split M.applied (first M) before (v.grown q) pre_q) ∙ take-append_seam before (drop len (v.grown q)) in
      sym fd ∙ ap (v.found q) (sym same) ∙ made_in ∙ ap (fold M.applied (first M) (first M)) cut

  matches : Matches M w ks
  matches i j c d x m m' p q =
      let t = (moment M w ks i).floor in
      let u = (moment M w ks j).floor in
      let v = y.view i in
      let mk : Makes M v (y.view (suc i)) c = (fact_of i p.call (order c p.serial p.command) p.there p.made).made p.answer p.granted in
      let zi = seen_opened (y.known i) (v.epoch c) ((safe i).lives c mk.some) in
      let zi2 = seen_opened (y.after i p.call p.there) (v.epoch c) mk.opened in
      let h_before : holds M t c ≡ v.list c = (zi.stands c mk.below).list in
      let h_after : holds M (outcome M (moment M w ks i) p.call).after c ≡ v.list c ++ mk.entry ∷ [] =
      (zi2.stands c mk.below).list ∙ mk.list in
      let entry_is : mk.entry ≡ x = cc (append_cancel_left (v.list c) (mk.entry ∷ []) (x ∷ []) (sym h_after ∙ p.entry ∙ ap (λ (a : List (Entry M.Update)). a ++ x ∷ []) h_before)) in
      let m_is : m ≡ v.speculative c = p.state ∙ (zi.stands c mk.below).speculative mk.leads mk.some in
      let on = delivers_below M u (opening M (moment M w ks j).config q.call.is_open) q.call.made d q.before x q.after q.applied in
      let db = on.0 in
      let v2 = y.view j in
      let v3 = y.view (suc j) in
      let before = v2.handed d ++ q.before in
      let handed_is : v3.handed d ≡ before ++ x ∷ q.after =
      (y.fact j q.call q.there).handed d ∙ ap (λ (a : List (Entry M.Update)). v2.handed d ++ a) q.applied ∙ sym (append_assoc (v2.handed d) q.before (x ∷ q.after)) in
      let n = suc i + suc j in
      let gi = y.grown (suc i) n (omega arith) in
      let gj = y.grown (suc j) n (omega arith) in
      let pre3 : Prefix M.applied (first M) (before ++ x ∷ []) (v3.handed d) = λ k z h. subst (λ (a : List (Entry M.Update)). slice_get a k ≡ Some z) (append_assoc before (x ∷ []) q.after ∙ sym handed_is) (append_keeps (before ++ x ∷ []) q.after z k h) in
      let place = mk.place in
      let k = length (v.list c) in
      elim ((safe (suc j)).kept d) [
        | inl none ↦ absurd (let l = ap length handed_is in let l2 = length-append before (x ∷ q.after) in omega arith)
        | inr (e, le, a, pr) ↦
            let z2 = seen_started (y.known j) on.1 in
            let st = z2.stands d db in
            let m'_is : m' ≡ fold M.applied (first M) (first M) before =
            q.state ∙ run_means M means (get_or u.committed d M.opening) q.before ∙ ap (λ (s : M.Meaning). fold M.applied (first M) s q.before) (st.committed ∙ (safe j).done d z2.some) ∙ sym (fold-append (λ m (e : Entry M.Update). M.applied m e.update) (first M) (v2.handed d) q.before) in
            let found_m : m ≡ fold M.applied (first M) (first M) before =
            found_at n (v.epoch c) k k e x before m (ap (λ (s : Entry M.Update). s.epoch) (sym entry_is) ∙ mk.epoch) (gi.opened (v.epoch c) mk.opened) (gi.grown (v.epoch c) mk.opened k x (place ∙ ap (λ (s : Entry M.Update). Some s) entry_is))
            (gi.found (v.epoch c) k mk.opened (slice_get_within ((y.view (suc i)).grown (v.epoch c)) k mk.entry place) ∙ mk.found ∙ sym m_is)
            (gj.opened e a.opened) (λ r s h. gj.grown e a.opened r s (pr r s (pre3 r s h))) in
            found_m ∙ sym m'_is
      ]

module _ (M : Meant) (means : Means M) where
  -- the law
  pub law : Law M
  law w new kept ks =
      let y = story M means w (nothing M) ks (inl (new, kept, refl)) in
      (agrees M means w ks y, stays M means w ks y, matches M means w ks y)
