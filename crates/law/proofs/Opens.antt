-- Hand of NEWCONFIG and NEWSTATE.
use Rattle.std.proofs.Common.{◌≡◌, ℕ, ◌+◌, ◌-◌, ◌*◌, ◌/◌, ◌%◌, ◌^◌, ◌<◌, ◌≤◌, true, List, length, get_or, take, drop, set, replicate, Some, None, Option, sym, refl, ap, ◌∙◌, inl, inr, one-mul, arith}
use native.Mathlib.Nat.{add-mul-div_right}
use Rattle.std.proofs.lemmas.Nat.{pow_pos}
use Rattle.std.proofs.lemmas.Bool.Decides.{nat_tests}
use Rattle.std.proofs.lemmas.Bool.{cases_lt, cases_eq, cases_Bool, lt-ltb, eqb-true, eq-eqb, ne_eqb}
use Rattle.std.proofs.lemmas.List.{length-set, get_or-set_same, get_or-set_other, get_or-replicate, get_or_past, take_all}
use Rattle.service.specs.Meant.{Meant, Means}
use Rattle.config.specs.Members.{member, only, without}
use Rattle.config.specs.Configured.{Configured}
use Rattle.config.proofs.Sets.{only_le}
use Rattle.entries.specs.declared.Entry.{Entry}
use Rattle.machine.specs.declared.envelope.Envelope.{Envelope}
use Rattle.machine.specs.declared.envelope.Message.TheVariants.{Held, NewConfig, NewState}
use Rattle.machine.specs.Rows.{leading, following}
use Rattle.machine.specs.Machine.{Here, at, stretch, opening_of, part, run, space, grant, put_controller, put_opening, put_list, put_speculative, over, opened_by, joined_by}
use Rattle.protocol.proofs.View.{fold, open_epoch, join}
use Rattle.protocol.proofs.Lists.{prefix_length}
use Rattle.protocol.proofs.OpenKeeps.{open_keeps}
use Rattle.protocol.proofs.JoinKeeps.{join_keeps}
use Rattle.protocol.proofs.Later.{open_later, join_later}
use Rattle.law.proofs.Seen.{Sight, Safe, Grown, Says, Seen, first}
use Rattle.law.proofs.Tables.{length_part, length_over, part_over, part_over_apart}
use Rattle.law.proofs.Frames.{length_list}
use Rattle.law.proofs.Moves.{seen_set, seen_send}
use Rattle.law.proofs.Goals.{To}
use Rattle.law.proofs.Quiet.{spaced, member_lt, other_bits}
use Rattle.law.proofs.Hands.{run_means, part_of_list}

-- a set without c has those that it had, but c
pub without_has : (m c h : ℕ) → member (without m c) h ≡ true → (member m h ≡ true) × (h ≡ c → ⊥)
without_has m c h q =
    elim (cases_Bool (member m c)) [
      | inl t ↦
          let cb = member_lt m c t in
          let tc = lt-ltb c 8 cb in
          let le : 2 ^ c ≤ m = simp tc at (only_le m c t) in
          let q' : member (m - 2 ^ c) h ≡ true = simp t at q in
          let hb = member_lt (m - 2 ^ c) h q' in
          let th = lt-ltb h 8 hb in
          let one : m / 2 ^ c % 2 ≡ 1 = eqb-true (m / 2 ^ c % 2) 1 (simp tc at t) in
          let back : m - 2 ^ c + 2 ^ c ≡ m = omega arith in
          let shift : m / 2 ^ c ≡ (m - 2 ^ c) / 2 ^ c + 1 = ap (λ n. n / 2 ^ c) (sym back) ∙ ap (λ n. (m - 2 ^ c + n) / 2 ^ c) (sym (one-mul (2 ^ c))) ∙ add-mul-div_right (m - 2 ^ c) 1 (pow_pos c) in
          let none : (m - 2 ^ c) / 2 ^ c % 2 ≡ 0 = omega arith in
          let bit : (m - 2 ^ c) / 2 ^ h % 2 ≡ 1 = eqb-true ((m - 2 ^ c) / 2 ^ h % 2) 1 (simp th at q') in
          let apart : h ≡ c → ⊥ = λ e. let b' : (m - 2 ^ c) / 2 ^ c % 2 ≡ 1 = rw e at bit in omega arith in
          let kept = other_bits (m - 2 ^ c) c h apart none in
          (simp th (eq-eqb (m / 2 ^ h % 2) 1 (ap (λ n. n / 2 ^ h % 2) (sym back) ∙ kept ∙ bit)), apart)
      | inr t ↦ let q' : member m h ≡ true = simp t at q in (q', λ e. let r : member m c ≡ true = rw e at q' in cc)
    ]

-- nobody has told a new leader anything
pub untold : (f h : ℕ) → get_or (replicate 8 None) f None ≡ Some h → ⊥
untold f h q =
    elim (cases_lt f 8) [
      | inl l ↦ let n = get_or-replicate {A = Option ℕ} 8 f None None l in cc
      | inr l ↦ let n = get_or_past {X = Option ℕ} (replicate 8 None) f None l in cc
    ]

module _ (M : Meant) (means : Means M) where
  pub newconfig_goes : (t : Here M) (s : Configured) (v : Sight M) (c e m to : ℕ) → Safe M v → Seen M t s v → c < 8 → (at M t c).promise ≡ e → (at M t c).epoch < e → e ≤ 32
      → space t.sent (without m c) ≡ true → member to c ≡ true → Says M v to (NewConfig e m)
      → To M t s v (grant M 0 (opened_by M t c (at M t c) e m)) (open_epoch M.applied (first M) v c e)
  unfolding open_epoch
  newconfig_goes t s v c e m to i z b pr lt most sp mem said =
      let k = at M t c in
      let st = z.stands c b in
      let ld : v.leader e ≡ c = said.3 c mem in
      let two = said.0 in
      let lt' : v.epoch c < e = rw st.epoch at lt in
      let big = z.entries in let obig = z.openings in let spb = z.speculative in let ls = z.epochs in
      let room = st.room in
      let shut : v.opened e ≡ true → ⊥ = λ o. let a = i.ahead e o in omega (arith, ap v.epoch ld) in
      let w = open_epoch M.applied (first M) v c e in
      let safe = open_keeps M.applied (first M) v c e i two said.1 ld (sym st.promise ∙ pr) lt' in
      let g : Grown M v w = open_later M.applied (first M) v c e shut lt' in
      let xs = stretch t.entries c k.length in
      let len : length xs ≡ k.length = length_part t.entries (c * 64) k.length (omega arith) in
      let old = get_or t.committed c M.opening in
      let es = part t.entries c k.delivered (k.length - k.delivered) in
      let x = run M old es in
      let u = put_speculative M (put_opening M (put_controller M t c (leading k e m)) e xs) c x in
      let env : Envelope M.Update = record { sender = c; to = without m c; message = NewState e } in
      let tc = eq-eqb c c refl in
      let te = eq-eqb e e refl in
      let del = st.delivered in
      let handed_le : k.delivered ≤ k.length = let q = prefix_length M.applied (first M) (v.handed c) (v.list c) (i.own c) in let n = length_list M t s v c z b in omega arith in
      let es_is : es ≡ drop (length (v.handed c)) (v.list c) =
      part_of_list t.entries (c * 64) k.delivered k.length k.length handed_le (omega arith)
      ∙ ap (λ (ys : List (Entry M.Update)). drop k.delivered ys) (take_all k.length xs (omega arith) ∙ st.list) ∙ ap (λ (n : ℕ). drop n (v.list c)) del in
      let fits : (e - 1) * 64 + length xs ≤ length t.openings = omega arith in
      let apart : (e' : ℕ) → v.opened e' ≡ true → (e' ≡ e → ⊥) = λ e' o q. shut (rw q at o) in
      let zu = seen_set M t u s v w c (leading k e m) i g z b refl refl (simp (length-set, length_over t.openings xs ((e - 1) * 64) fits) refl)
      (record {
        epoch = simp tc;
        promise = st.promise;
        room = st.room;
        list = st.list;
        delivered = st.delivered;
        committed = st.committed;
        speculative = λ _ _. simp tc (ap M.mean (get_or-set_same t.speculative c x M.opening (omega arith)) ∙ run_means M means old es ∙ ap (λ (y : M.Meaning). fold M.applied (first M) y es) st.committed ∙ ap (fold M.applied (first M) (v.committed c)) es_is);
        role = record {
          some = simp tc (omega arith);
          leads = simp tc ld;
          members = λ f. simp tc (said.2 f);
          told = λ f h q. absurd (untold f h q);
        };
      })
      (λ d db ne. let td = ne_eqb d c ne in simp (get_or-set_other t.speculative c d x M.opening ne, td) refl)
      (λ e' o'. elim (cases_eq e' e) [
        | inl q ↦
            let tq = eq-eqb e' e q in
            let same_len = get_or-set_same t.lengths (e - 1) (length xs) 0 (omega arith) in
            simp tq (ap (λ (a : ℕ). opening_of (over t.openings ((e - 1) * 64) xs) a (get_or (set t.lengths (e - 1) (length xs)) (a - 1) 0)) q ∙ ap (opening_of (over t.openings ((e - 1) * 64) xs) e) same_len ∙ part_over t.openings xs ((e - 1) * 64) fits ∙ st.list)
        | inr d ↦
            let tq = ne_eqb e' e d in
            let o : v.opened e' ≡ true = simp tq at o' in
            let rng = i.opens e' o in
            let r0 = rng.0 in let r1 = rng.1 in let top = z.most in let sh = z.short e' o in
            let n = get_or t.lengths (e' - 1) 0 in
            let same_len = get_or-set_other t.lengths (e - 1) (e' - 1) (length xs) 0 (λ q. d (omega arith)) in
            simp tq (ap (opening_of (over t.openings ((e - 1) * 64) xs) e') same_len
            ∙ part_over_apart t.openings xs ((e - 1) * 64) ((e' - 1) * 64) n fits (omega arith) (elim (cases_lt e' e) [ inl y ↦ inl (omega arith) | inr y ↦ inr (omega arith) ])
            ∙ z.opened e' o)
      ])
      (λ e' o'.
      let rng = i.opens e' in let sh = z.short e' in
      let same_len = get_or-set_same t.lengths (e - 1) (length xs) 0 (omega arith) in
      let other_len = get_or-set_other t.lengths (e - 1) (e' - 1) (length xs) 0 in
      grind (arith, nat_tests)) in
      record {
        safe = safe;
        grown = g;
        seen = seen_send M u s w env safe zu (spaced t.sent (without m c) sp)
            (simp te, λ d h. let q = without_has m c d h in (sym (said.2 d) ∙ q.0, λ same. q.1 (sym same ∙ ld)));
      }

  pub newstate_goes : (t : Here M) (s : Configured) (v : Sight M) (c e sender to : ℕ) → Safe M v → Seen M t s v → c < 8 → (at M t c).promise ≤ e → (at M t c).epoch < e → t.sent < 1024
      → member to c ≡ true → Says M v to (NewState e)
      → To M t s v (grant M 0 (joined_by M t c (at M t c) e sender (get_or t.lengths (e - 1) 0))) (join M.applied (first M) v c e)
  unfolding join
  newstate_goes t s v c e sender to i z b pr lt sent mem said =
      let k = at M t c in
      let st = z.stands c b in
      let o = said.0 in
      let me = said.1 c mem in
      let rng = i.opens e o in
      let r0 = rng.0 in let r1 = rng.1 in let top = z.most in
      let lt' : v.epoch c < e = rw st.epoch at lt in
      let pr' : v.promise c ≤ e = rw st.promise at pr in
      let big = z.entries in let obig = z.openings in
      let n = get_or t.lengths (e - 1) 0 in
      let short = z.short e o in
      let w = join M.applied (first M) v c e in
      let safe = join_keeps M.applied (first M) v c e i o me.0 me.1 pr' lt' in
      let g : Grown M v w = join_later M.applied (first M) v c e i lt' in
      let xs = opening_of t.openings e n in
      let len : length xs ≡ n = length_part t.openings ((e - 1) * 64) n (omega arith) in
      let xs_is : xs ≡ v.opening e = z.opened e o in
      let fits : c * 64 + length xs ≤ length t.entries = omega arith in
      let u = put_list M (put_controller M t c (following k e n)) c xs in
      let env : Envelope M.Update = record { sender = c; to = only sender; message = Held e n c } in
      let tc = eq-eqb c c refl in
      let te = eq-eqb e e refl in
      let zu = seen_set M t u s v w c (following k e n) i g z b refl refl (simp (length-set, length_over t.entries xs (c * 64) fits) refl)
      (record {
        epoch = simp tc;
        promise = simp tc;
        room = short;
        list = simp tc (ap (λ (a : ℕ). take a (drop (c * 64) (over t.entries (c * 64) xs))) (sym len) ∙ part_over t.entries xs (c * 64) fits ∙ xs_is);
        delivered = st.delivered;
        committed = st.committed;
        speculative = λ q pos. absurd (me.1 (simp tc at q));
        role = (simp tc (omega arith), λ q. me.1 (simp tc at q));
      })
      (λ d db ne.
      let td = ne_eqb d c ne in
      let q = z.stands d db in
      let qr = q.room in
      simp (part_over_apart t.entries xs (c * 64) (d * 64) (at M t d).length fits (omega arith) (elim (cases_lt d c) [ inl y ↦ inl (omega arith) | inr y ↦ inr (let m : c < d = elim (cases_lt c d) [ inl x ↦ x | inr x ↦ absurd (ne (omega arith)) ] in omega arith) ]), td) refl)
      z.opened z.short in
      record {
        safe = safe;
        grown = g;
        seen = seen_send M u s w env safe zu (λ _. sent) (simp (te, tc) (let q : length (v.opening e) ≡ n = ap length (sym xs_is) ∙ len in omega arith));
      }
