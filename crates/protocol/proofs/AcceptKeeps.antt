-- A follower that takes one more entry keeps what holds.
use Rattle.std.proofs.Common.{◌≡◌, ℕ, ◌<◌, length, Some, refl, arith}
use Rattle.std.specs.List.{slice_get}
use Rattle.std.proofs.lemmas.Bool.Decides.{nat_tests}
use Rattle.std.proofs.lemmas.List.{length_push}
use Rattle.std.proofs.lemmas.Option.{slice_get_within}
use Rattle.entries.specs.declared.Entry.{Entry}
use Rattle.protocol.proofs.View.{View, accept}
use Rattle.protocol.proofs.Inv.{Inv}
use Rattle.protocol.proofs.Lists.{push_tells}
use Rattle.protocol.proofs.Later.{kept_later, accept_later}

module _ {U X : Type 0} (ap : X → U → X) (x₀ : X) where
  -- one entry more: whoever leads a later epoch that came from this one has left this one, and whoever denied this one is not in it
  pub accept_keeps : (v : View U X) (c : ℕ) (x : Entry U) → Inv ap x₀ v → 0 < v.epoch c → (v.leader (v.epoch c) ≡ c → ⊥) → slice_get (v.grown (v.epoch c)) (length (v.list c)) ≡ Some x → Inv ap x₀ (accept ap x₀ v c x)
  unfolding accept
  accept_keeps v c x i h g s = record {
    lists = i.lists;
    led = i.led;
    ahead = i.ahead;
    nos = i.nos;
    less = λ e o p q. let a = i.less e o p q in let b = i.past e o p in let d = i.ahead e o in grind (arith, nat_tests);
    fit = i.fit;
    none = λ d z. let a = i.none d z in grind (arith, nat_tests);
    lives = i.lives;
    leads = λ d p q. let a = i.leads d p q in grind (arith, nat_tests);
    follows = i.follows;
    begins = λ d p k y e. let a = i.begins d p k y e in let b = slice_get_within (v.list d) k y a in grind (arith, nat_tests, push_tells);
    within = λ d p k y e. let a = i.within d p k y in grind (arith, nat_tests, push_tells);
    own = λ d k y e. let a = i.own d k y e in let b = slice_get_within (v.list d) k y a in grind (arith, nat_tests, push_tells);
    kept = λ d. kept_later ap x₀ v (accept ap x₀ v c x) i (accept_later ap x₀ v c x i) d refl;
    done = i.done;
    spec = λ d p q. let a = i.spec d p q in grind (arith, nat_tests);
    said = λ e f p. let a = i.said e f in let b = i.lives c h in let d = slice_get_within (v.grown (v.epoch c)) (length (v.list c)) x s in grind (arith, nat_tests, length_push);
    noes = λ n t f d. let a = i.noes n t f d in grind (arith, nat_tests);
  }
