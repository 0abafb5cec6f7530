-- The start of epoch 1 makes the invariant hold, and a view in which nothing happened has it.
use Rattle.std.proofs.Common.{◌≡◌, ℕ, ◌<◌, ◌≤◌, Bool, true, false, cond, List, [], length, Some, sym, refl, ap, inl, arith}
use Rattle.std.specs.List.{slice_get}
use Rattle.std.proofs.lemmas.Option.{slice_get_within}
use Rattle.std.proofs.lemmas.Bool.Decides.{nat_tests}
use Rattle.entries.specs.declared.Entry.{Entry}
use Rattle.protocol.proofs.View.{View, fold, upd, begin}
use Rattle.protocol.proofs.Inv.{Inv}

module _ {U X : Type 0} (act : X → U → X) (x₀ : X) where
  -- a view in which nothing happened yet
  pub record Idle (v : View U X) : Type 0 where
    pub last : v.last ≡ 0
    pub opened : (e : ℕ) → v.opened e ≡ false
    pub opening : (e : ℕ) → v.opening e ≡ []
    pub epoch : (c : ℕ) → v.epoch c ≡ 0
    pub list : (c : ℕ) → v.list c ≡ []
    pub handed : (c : ℕ) → v.handed c ≡ []
    pub held : (e f : ℕ) → v.held e f ≡ 0
    pub denied : (n t f : ℕ) → v.denied n t f ≡ false

  pub idle_shut : (v : View U X) → Idle v → (e : ℕ) → v.opened e ≡ true → ⊥
  idle_shut v d e o = let q = d.opened e in cc

  nowhere : {A : Type 0} (xs : List A) (k : ℕ) (x : A) → xs ≡ [] → slice_get xs k ≡ Some x → ⊥
  nowhere xs k x e h = let w = slice_get_within xs k x h in omega (arith, ap length e)

  pub idle_inv : (v : View U X) → Idle v → Inv act x₀ v
  idle_inv v d =
      let shut = idle_shut v d in
      let still : (c : ℕ) → 0 < v.epoch c → ⊥ = λ c z. let q = d.epoch c in omega arith in
      let l = d.last in
      record {
        lists = record {
          origin = d.opening 1;
          grows = λ e o. absurd (shut e o);
          past = λ e o. absurd (shut e o);
          base = λ e o. absurd (shut e o);
          from = λ e o. absurd (shut e o);
          old = λ e k x o. absurd (shut e o);
          new = λ e k x o. absurd (shut e o);
          serials = λ e a b x y o. absurd (shut e o);
          made = λ e k o. absurd (shut e o);
        };
        led = record {
          lawful = λ e a b. absurd (omega arith);
          opens = λ e o. absurd (shut e o);
          inside = λ e o. absurd (shut e o);
          same = λ e o. absurd (shut e o);
        };
        ahead = λ e o. absurd (shut e o);
        nos = λ e o. absurd (shut e o);
        less = λ e o. absurd (shut e o);
        fit = λ e a b. absurd (omega arith);
        none = λ c z. d.list c;
        lives = λ c z. absurd (still c z);
        leads = λ c z. absurd (still c z);
        follows = λ c z. absurd (still c z);
        begins = λ c z. absurd (still c z);
        within = λ c z. absurd (still c z);
        own = λ c k x h. absurd (nowhere (v.handed c) k x (d.handed c) h);
        kept = λ c. inl (ap length (d.handed c));
        done = λ c z. absurd (omega arith);
        spec = λ c z. absurd (still c z);
        said = λ e f z. let q = d.held e f in absurd (omega arith);
        noes = λ n t f h. let q = d.denied n t f in absurd cc;
      }

  pub begin_keeps : (v : View U X) (m : ℕ → Bool) (l : ℕ) → Idle v → m l ≡ true → Inv act x₀ (begin act x₀ v m l)
  unfolding begin
  begin_keeps v m l d ml =
      let only : (e : ℕ) → upd v.opened 1 true e ≡ true → e ≡ 1 = λ e o. let q = d.opened e in grind (arith, nat_tests) in
      let early : (e : ℕ) → upd v.opened 1 true e ≡ true → 2 ≤ e → ⊥ = λ e o two. let q = only e o in omega arith in
      let empty : (e k : ℕ) (x : Entry U) → upd v.opened 1 true e ≡ true → slice_get (upd v.grown 1 [] e) k ≡ Some x → ⊥ =
      λ e k x o h. let q = only e o in nowhere [] k x refl (grind (arith, nat_tests)) in
      let blank : (c : ℕ) → cond (m c) [] (v.list c) ≡ [] = λ c. let q = d.list c in grind (arith, nat_tests) in
      record {
        lists = record {
          origin = refl;
          grows = λ e o k x h. let q = only e o in grind (arith, nat_tests);
          past = λ e o two. absurd (early e o two);
          base = λ e o two. absurd (early e o two);
          from = λ e o two. absurd (early e o two);
          old = λ e k x o h. absurd (empty e k x o h);
          new = λ e k x o h. absurd (empty e k x o h);
          serials = λ e a b x y o h. absurd (empty e a x o h);
          made = λ e k o a b. let q = only e o in grind (arith, nat_tests);
        };
        led = record {
          lawful = λ e a b. grind (arith, nat_tests);
          opens = λ e o. let q = only e o in (omega arith, omega arith);
          inside = λ e o two. absurd (early e o two);
          same = λ e o two. absurd (early e o two);
        };
        ahead = λ e o. let q = only e o in grind (arith, nat_tests);
        nos = λ e o two. absurd (early e o two);
        less = λ e o two. absurd (early e o two);
        fit = λ e a b. absurd (omega arith);
        none = λ c z. blank c;
        lives = λ c z. let a = d.epoch c in grind (arith, nat_tests);
        leads = λ c z q. let a = d.epoch c in let b = d.list c in grind (arith, nat_tests);
        follows = λ c z q. let a = d.epoch c in grind (arith, nat_tests);
        begins = λ c z k x h. let a = d.epoch c in let b = d.list c in absurd (nowhere [] k x refl (grind (arith, nat_tests)));
        within = λ c z k x h. absurd (nowhere _ k x (blank c) h);
        own = λ c k x h. absurd (nowhere (v.handed c) k x (d.handed c) h);
        kept = λ c. inl (ap length (d.handed c));
        done = λ c z. sym (ap (fold act x₀ x₀) (d.handed c));
        spec = λ c z q. sym (ap (fold act x₀ x₀) (blank c));
        said = λ e f z. let q = d.held e f in absurd (omega arith);
        noes = λ n t f h. let q = d.denied n t f in absurd cc;
      }
