-- One configuration more keeps what holds.
use Rattle.std.proofs.Common.{◌≡◌, ℕ, ◌+◌, ◌≤◌, Bool, true, refl, inl, inr, arith}
use Rattle.std.proofs.lemmas.Bool.Decides.{nat_tests}
use Rattle.std.proofs.lemmas.Bool.{cases_eq}
use Rattle.protocol.proofs.View.{View, Fit, store}
use Rattle.protocol.proofs.Inv.{Inv}
use Rattle.protocol.proofs.Later.{kept_later, store_later}

module _ {U X : Type 0} (ap : X → U → X) (x₀ : X) where
  -- one configuration more: an epoch that was opened was stored before, so its configuration is as it was
  pub store_keeps : (v : View U X) (m : ℕ → Bool) (l : ℕ) → Inv ap x₀ v → 1 ≤ v.last → m l ≡ true → Fit ap x₀ v (v.last + 1) l → Inv ap x₀ (store ap x₀ v m l)
  unfolding store
  store_keeps v m l i s h g = record {
    lists = i.lists;
    led = record {
      lawful = λ e p q. let a = i.lawful e p in grind (arith, nat_tests);
      opens = λ e o. let a = i.opens e o in (omega arith, omega arith);
      inside = λ e o p. let a = i.inside e o p in let b = i.opens e o in let d = i.past e o p in grind (arith, nat_tests);
      same = λ e o p q. let b = i.opens e o in let d = i.past e o p in i.same e o p (grind (arith, nat_tests));
    };
    ahead = λ e o. let a = i.ahead e o in let b = i.opens e o in grind (arith, nat_tests);
    nos = i.nos;
    less = λ e o p q. let a = i.less e o p in let b = i.opens e o in let d = i.past e o p in grind (arith, nat_tests);
    fit = λ e p q. elim (cases_eq e (v.last + 1)) [
      | inl z ↦ (g.0, g.1, omega arith, rw z g.3, grind (arith, nat_tests))
      | inr z ↦ let f = i.fit e p (omega arith) in (f.0, f.1, f.2, f.3, grind (arith, nat_tests))
    ];
    none = i.none;
    lives = i.lives;
    leads = λ c p q. let o = i.lives c p in let a = i.leads c p in let b = i.opens (v.epoch c) o in grind (arith, nat_tests);
    follows = λ c p q. let o = i.lives c p in let a = i.follows c p in let b = i.opens (v.epoch c) o in grind (arith, nat_tests);
    begins = i.begins;
    within = i.within;
    own = i.own;
    kept = λ c. kept_later ap x₀ v (store ap x₀ v m l) i (store_later ap x₀ v m l) c refl;
    done = λ c _. i.done c s;
    spec = λ c p q. let o = i.lives c p in let a = i.spec c p in let b = i.opens (v.epoch c) o in grind (arith, nat_tests);
    said = i.said;
    noes = λ n t f d. let a = i.noes n t f d in grind (arith, nat_tests);
  }
