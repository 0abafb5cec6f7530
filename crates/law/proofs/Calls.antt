-- Hand of every kind.
use Rattle.std.proofs.Common.{◌≡◌, ℕ, ◌-◌, ◌*◌, ◌<◌, ◌≤◌, Bool, true, false, cond, ◌&&◌, eqb, ltb, leb, List, [], ◌++◌, length, get_or, take, drop, Some, None, Ok, Option, Result, sym, refl, ap, ◌∙◌, inl, inr, arith}
use Rattle.std.specs.List.{slice_get}
use Rattle.std.proofs.lemmas.Bool.{cases_eq, cond_both, ltb-true, leb-true, and_parts, eqb-true, eq-eqb, ne_eqb}
use Rattle.std.proofs.lemmas.List.{append-nil}
use Rattle.service.specs.Meant.{Meant, Means}
use Rattle.config.specs.Members.{member, without}
use Rattle.config.specs.Configured.{Configured}
use Rattle.std.proofs.lemmas.Option.{slice_get_within}
use Rattle.entries.specs.declared.Entry.{Entry}
use Rattle.machine.specs.declared.controller.Lead.{Lead}
use Rattle.machine.specs.declared.controller.Role.{Role}
use Rattle.machine.specs.declared.controller.Role.TheVariants.{Fresh, Follower, Leader}
use Rattle.machine.specs.declared.envelope.Message.{Message}
use Rattle.machine.specs.declared.envelope.Message.TheVariants.{Commit, Accept, Held, Probe, Answer, NewConfig, NewState}
use Rattle.machine.specs.declared.fault.Fault.{Fault}
use Rattle.machine.specs.declared.fault.Fault.TheVariants.{OutOfRange, Stopped, NotAddressed}
use Rattle.machine.specs.Rows.{reach, follows, takes_part, leads_other}
use Rattle.machine.specs.Machine.{Here, at, part, space, in_range, untaken, unhanded, no_envelope, ask, taken, handed_over, handed}
use Rattle.machine.specs.Changes.{hand}
use Rattle.protocol.proofs.View.{deliver, accept, promised, open_epoch, join}
use Rattle.protocol.proofs.Lists.{take_tells, prefix_split}
use Rattle.law.specs.Lives.{letter, applies, delivers}
use Rattle.law.proofs.Seen.{Sight, Safe, Says, Seen, first}
use Rattle.law.proofs.Goals.{OpensWith, Opened, Fact, Goes, refused_goes}
use Rattle.law.proofs.Frames.{asked, unrefused, past_start}
use Rattle.law.proofs.Hands.{reach_most, reach_least, part_of_list, commit_goes, accept_goes, held_goes, probe_goes}
use Rattle.law.proofs.Opens.{newconfig_goes, newstate_goes}

-- a question that is not answered no is answered yes
pub yes_none : (b : Bool) (x : Option Fault) (f : Fault) → cond b x (Some f) ≡ None → (b ≡ true) × (x ≡ None)
yes_none true x f h = (refl, h)
yes_none false x f h = absurd cc

follower_of : (r : Role) → follows r ≡ true → r ≡ Follower
follower_of Fresh h = absurd cc
follower_of Follower h = refl
follower_of (Leader l) h = absurd cc

leader_of : (r : Role) (c f : ℕ) → leads_other r c f ≡ true → (l : Lead) × (r ≡ Leader l)
leader_of Fresh c f h = absurd cc
leader_of Follower c f h = absurd cc
leader_of (Leader l) c f h = (l, refl)

module _ (M : Meant) (means : Means M) where
  -- a hand that delivers nothing
  nothing_handed : (t : Here M) (v w : Sight M) (n c a : ℕ) (m : Message M.Update) → letter M t n ≡ m → applies M t c a m ≡ [] → ((d : ℕ) → w.handed d ≡ v.handed d)
      → (d : ℕ) → w.handed d ≡ v.handed d ++ delivers M t (hand n c) (Ok a) d
  nothing_handed t v w n c a m lm none same d =
      let e : delivers M t (hand n c) (Ok a) d ≡ [] = cond_both (eqb d c) (applies M t c a (letter M t n)) [] (λ (ys : List (Entry M.Update)). ys ≡ []) (λ _. ap (applies M t c a) lm ∙ none) (λ _. refl) in
      same d ∙ sym (append-nil (v.handed d)) ∙ ap (λ (ys : List (Entry M.Update)). v.handed d ++ ys) (sym e)

  -- what a COMMIT delivers
  commit_handed : (t : Here M) (s : Configured) (v : Sight M) (n c r e m : ℕ) → Safe M v → Seen M t s v → c < 8 → letter M t n ≡ Commit e m → (at M t c).delivered ≤ r → r ≤ (at M t c).length
      → (d : ℕ) → (deliver M.applied (first M) v c r).handed d ≡ v.handed d ++ delivers M t (hand n c) (Ok (r - (at M t c).delivered)) d
  unfolding deliver
  commit_handed t s v n c r e m i z b lm low high d =
      let k = at M t c in
      let p = z.stands c b in
      let del = p.delivered in
      elim (cases_eq d c) [
        | inl q ↦
            let t' = eq-eqb d c q in
            let es = part t.entries c k.delivered (r - k.delivered) in
            let es_is : es ≡ drop (length (v.handed c)) (take r (v.list c)) =
            part_of_list t.entries (c * 64) k.delivered r k.length low high ∙ ap (λ (ys : List (Entry M.Update)). drop k.delivered (take r ys)) p.list ∙ ap (λ (y : ℕ). drop y (take r (v.list c))) del in
            let own : (j : ℕ) (x : Entry M.Update) → slice_get (v.handed c) j ≡ Some x → slice_get (take r (v.list c)) j ≡ Some x =
            λ j x h. let w = slice_get_within (v.handed c) j x h in elim (take_tells r (v.list c) j) [ inl y ↦ y.0 ∙ i.own c j x h | inr y ↦ absurd (omega (arith, y.1)) ] in
            simp (t', lm) (prefix_split M.applied (first M) (v.handed c) (take r (v.list c)) own ∙ ap (λ (ys : List (Entry M.Update)). v.handed c ++ ys) (sym es_is) ∙ ap (λ (y : ℕ). v.handed y ++ es) (sym q))
        | inr ne ↦ let t' = ne_eqb d c ne in simp t' (sym (append-nil (v.handed d)))
      ]

  opened_by_none : (t : Here M) (v w : Sight M) (n c : ℕ) (r : Result ℕ Fault) → ((e m : ℕ) → letter M t n ≡ NewConfig e m → ⊥) → Opened M t v w (hand n c) r
  opened_by_none t v w n c r not_this = λ a e m q l. absurd (not_this e m l)

  -- a hand that delivers nothing and opens nothing
  quiet : (t : Here M) (v w : Sight M) (n c : ℕ) (m : Message M.Update) → letter M t n ≡ m → applies M t c 0 m ≡ [] → ((e k : ℕ) → m ≡ NewConfig e k → ⊥) → ((d : ℕ) → w.handed d ≡ v.handed d)
      → Fact M t v w (hand n c) (Ok 0)
  quiet t v w n c m lm none other same = record {
    handed = nothing_handed t v w n c 0 m lm none same;
    opened = opened_by_none t v w n c (Ok 0) (λ e k q. other e k (sym lm ∙ q));
    made = tt;
    secured = tt;
  }

  opens_with : (v : Sight M) (c e : ℕ) → c < 8 → OpensWith M v (open_epoch M.applied (first M) v c e) c e
  unfolding open_epoch
  opens_with v c e b = let te = eq-eqb e e refl in record { below = b; opened = simp te; opening = simp te; list = refl }

  takes : (t : Here M) (s : Configured) (v : Sight M) (n c sender to : ℕ) (m : Message M.Update) → Safe M v → Seen M t s v → c < 8 → letter M t n ≡ m → in_range sender m ≡ true
      → member to c ≡ true → untaken t.sent t.lengths c (at M t c) m ≡ None → Says M v to m → Goes M (hand n c) t s v (taken M t c (at M t c) sender m)
  unfolding accept promised open_epoch join
  takes t s v n c sender to (Commit e m) i z b lm r mem u said =
      let k = at M t c in
      let a = yes_none (takes_part k.role && eqb k.epoch e) _ _ u in
      let a2 = yes_none (ltb k.delivered m) _ _ a.1 in
      let a3 = yes_none (leb m k.length) _ _ a2.1 in
      let p = and_parts (takes_part k.role) (eqb k.epoch e) a.0 in
      let le = leb-true m k.length a3.0 in
      let far = reach m k.delivered in
      let least = reach_least m k.delivered (ltb-true k.delivered m a2.0) in
      record {
        view = deliver M.applied (first M) v c far;
        to = commit_goes M means t s v c far e m i z b p.0 (eqb-true k.epoch e p.1) least (reach_most m k.delivered) le said;
        fact = record {
          handed = commit_handed t s v n c far e m i z b lm least (omega arith);
          opened = opened_by_none t v _ n c _ (λ e' m' q. cc);
          made = tt;
          secured = tt;
        };
      }
  takes t s v n c sender to (Accept e p x) i z b lm r mem u said =
      let k = at M t c in
      let a = yes_none (follows k.role && eqb k.epoch e) _ _ u in
      let a2 = yes_none (leb k.length p) _ _ a.1 in
      let a3 = yes_none (eqb p k.length) _ _ a2.1 in
      let a4 = yes_none (ltb k.length 64) _ _ a3.1 in
      let a5 = yes_none (ltb t.sent 1024) _ _ a4.1 in
      let q = and_parts (follows k.role) (eqb k.epoch e) a.0 in
      record {
        view = accept M.applied (first M) v c x;
        to = accept_goes M means t s v c sender e p x i z b (follower_of k.role q.0) (eqb-true k.epoch e q.1) (eqb-true p k.length a3.0) (ltb-true k.length 64 a4.0) (ltb-true t.sent 1024 a5.0) said.1;
        fact = quiet t v (accept M.applied (first M) v c x) n c (Accept e p x) lm refl (λ e' k' w. absurd cc) (λ d. refl);
      }
  takes t s v n c sender to (Held e h f) i z b lm r mem u said =
      let k = at M t c in
      let a = yes_none (leads_other k.role c f && eqb k.epoch e) _ _ u in
      let q = and_parts (leads_other k.role c f) (eqb k.epoch e) a.0 in
      let l = leader_of k.role c f q.0 in
      record {
        view = v;
        to = held_goes M means t s v c e h f l.0 i z b l.1 (eqb-true k.epoch e q.1) said;
        fact = quiet t v v n c (Held e h f) lm refl (λ e' k' w. absurd cc) (λ d. refl);
      }
  takes t s v n c sender to (Probe m e j) i z b lm r mem u said =
      let k = at M t c in
      let a = yes_none (leb k.promise m) _ _ u in
      let a2 = yes_none (ltb t.sent 1024) _ _ a.1 in
      record {
        view = promised M.applied (first M) v c (ltb (v.epoch c) e) e m;
        to = probe_goes M means t s v c m e j to i z b (leb-true k.promise m a.0) (ltb-true t.sent 1024 a2.0) mem said;
        fact = quiet t v (promised M.applied (first M) v c (ltb (v.epoch c) e) e m) n c (Probe m e j) lm refl (λ e' k' w. absurd cc) (λ d. refl);
      }
  takes t s v n c sender to (Answer y m e f j) i z b lm r mem u said = refused_goes M (hand n c) t s v i z NotAddressed
  takes t s v n c sender to (NewConfig e m) i z b lm r mem u said =
      let k = at M t c in
      let a = yes_none (eqb k.promise e && ltb k.epoch e) _ _ u in
      let a2 = yes_none (space t.sent (without m c)) _ _ a.1 in
      let q = and_parts (eqb k.promise e) (ltb k.epoch e) a.0 in
      let rng = and_parts (leb 1 e) (leb e 32) r in
      record {
        view = open_epoch M.applied (first M) v c e;
        to = newconfig_goes M means t s v c e m to i z b (eqb-true k.promise e q.0) (ltb-true k.epoch e q.1) (leb-true e 32 rng.1) a2.0 mem said;
        fact = record {
          handed = nothing_handed t v (open_epoch M.applied (first M) v c e) n c 0 (NewConfig e m) lm refl (λ d. refl);
          opened = λ a' e' m' g l. let same : e' ≡ e = cc in rw same (opens_with v c e b);
          made = tt;
          secured = tt;
        };
      }
  takes t s v n c sender to (NewState e) i z b lm r mem u said =
      let k = at M t c in
      let a = yes_none (leb k.promise e && ltb k.epoch e) _ _ u in
      let a2 = yes_none (leb k.delivered (get_or t.lengths (e - 1) 0)) _ _ a.1 in
      let a3 = yes_none (ltb t.sent 1024) _ _ a2.1 in
      let q = and_parts (leb k.promise e) (ltb k.epoch e) a.0 in
      record {
        view = join M.applied (first M) v c e;
        to = newstate_goes M means t s v c e sender to i z b (leb-true k.promise e q.0) (ltb-true k.epoch e q.1) (ltb-true t.sent 1024 a3.0) mem said;
        fact = quiet t v (join M.applied (first M) v c e) n c (NewState e) lm refl (λ e' k' w. absurd cc) (λ d. refl);
      }

  pub hand_goes : (t : Here M) (s : Configured) (v : Sight M) (n c : ℕ) → Safe M v → Seen M t s v → Goes M (hand n c) t s v (handed M t n c)
  hand_goes t s v n c i z =
      let no = refused_goes M (hand n c) t s v i z in
      let env = get_or t.envelopes n no_envelope in
      let k = at M t c in
      past_start M (Goes M (hand n c) t s v) t (ask M t (ltb c 8 && ltb n t.sent) OutOfRange (handed_over M t c k env)) no λ _.
      asked M (Goes M (hand n c) t s v) t (ltb c 8 && ltb n t.sent) OutOfRange (handed_over M t c k env) no λ h.
      unrefused M (Goes M (hand n c) t s v) t (unhanded t.sent t.lengths c k env) (taken M t c k env.sender env.message) no λ u.
      let b = and_parts (ltb c 8) (ltb n t.sent) h in
      let a = yes_none (in_range env.sender env.message) (cond k.running (cond (member env.to c) (untaken t.sent t.lengths c k env.message) (Some NotAddressed)) (Some Stopped)) OutOfRange u in
      let a2 = yes_none k.running (cond (member env.to c) (untaken t.sent t.lengths c k env.message) (Some NotAddressed)) Stopped a.1 in
      let a3 = yes_none (member env.to c) (untaken t.sent t.lengths c k env.message) NotAddressed a2.1 in
      takes t s v n c env.sender env.to env.message i z (ltb-true c 8 b.0) refl a.0 a3.0 a3.1 (z.bag n (ltb-true n t.sent b.1))
