-- A promise, with a no or without one, keeps what holds.
use Rattle.std.proofs.Common.{◌≡◌, ℕ, ◌<◌, ◌≤◌, Bool, true, refl, arith}
use Rattle.std.proofs.lemmas.Bool.Decides.{nat_tests}
use Rattle.protocol.proofs.View.{View, AllHeld, promised}
use Rattle.protocol.proofs.Inv.{Inv}
use Rattle.protocol.proofs.Later.{nos_later, fit_later, kept_later, promised_later}

module _ {U X : Type 0} (ap : X → U → X) (x₀ : X) where
  -- what every member held of an epoch it still holds
  promised_held : (v : View U X) (c : ℕ) (b : Bool) (t n e m : ℕ) → AllHeld ap x₀ v e m → AllHeld ap x₀ (promised ap x₀ v c b t n) e m
  unfolding promised
  promised_held v c b t n e m a = record { opened = a.opened; within = a.within; each = a.each }

  -- a promise: who denies an epoch that it had not reached has said nothing in it and has not opened it
  pub promised_keeps : (v : View U X) (c : ℕ) (b : Bool) (t n : ℕ) → Inv ap x₀ v → v.promise c ≤ n → (b ≡ true → (1 ≤ t) × (t < n) × (t ≤ v.last) × (v.member t c ≡ true) × (v.epoch c < t)) → Inv ap x₀ (promised ap x₀ v c b t n)
  unfolding promised
  promised_keeps v c b t n i h g =
      let w = promised ap x₀ v c b t n in
      let l = promised_later ap x₀ v c b t n in
      record {
        lists = i.lists;
        led = i.led;
        ahead = i.ahead;
        nos = λ e o p. nos_later ap x₀ v w l (v.parent e) e (i.nos e o p);
        less = i.less;
        fit = λ e p q. fit_later ap x₀ v w l e (v.leader e) (i.fit e p q);
        none = i.none;
        lives = i.lives;
        leads = i.leads;
        follows = i.follows;
        begins = i.begins;
        within = i.within;
        own = i.own;
        kept = λ d. kept_later ap x₀ v w i l d refl;
        done = i.done;
        spec = i.spec;
        said = i.said;
        noes = λ m u f d. let a = i.noes m u f in let s = i.said t c in let k = i.ahead t in grind (arith, nat_tests);
      }
