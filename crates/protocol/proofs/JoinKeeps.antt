-- A controller that joins an opened epoch keeps the invariant.
use Rattle.std.proofs.Common.{◌≡◌, ℕ, ◌<◌, ◌≤◌, true, length, Some, refl, inl, inr, arith}
use Rattle.std.specs.List.{slice_get}
use Rattle.std.proofs.lemmas.Bool.Decides.{nat_tests}
use Rattle.std.proofs.lemmas.Option.{slice_get_within}
use Rattle.protocol.proofs.View.{View, Prefix, join}
use Rattle.protocol.proofs.Inv.{Inv}
use Rattle.protocol.proofs.Lists.{prefix_length}
use Rattle.protocol.proofs.Follows.{key}
use Rattle.protocol.proofs.Later.{fit_later, kept_later, join_later}

module _ {U X : Type 0} (act : X → U → X) (x₀ : X) where
  -- what a controller delivered begins the list of every epoch opened above its own
  pub handed_begins : (v : View U X) → Inv act x₀ v → (c e : ℕ) → v.opened e ≡ true → v.epoch c < e → Prefix act x₀ (v.handed c) (v.opening e)
  handed_begins v i c e o lt k x h =
      let b = slice_get_within (v.handed c) k x h in
      elim (i.kept c) [
        | inl none ↦ absurd (omega arith)
        | inr s ↦ key act x₀ v i s.0 (length (v.handed c)) e s.2 o (omega (arith, s.1)) k x b (s.3 k x h)
      ]

  pub join_keeps : (v : View U X) (c e : ℕ) → Inv act x₀ v → v.opened e ≡ true → v.member e c ≡ true → (v.leader e ≡ c → ⊥) → v.promise c ≤ e → v.epoch c < e
      → Inv act x₀ (join act x₀ v c e)
  unfolding join
  join_keeps v c e i o m ne pr lt =
      let w = join act x₀ v c e in
      let g = join_later act x₀ v c e i lt in
      let none_said : v.held e c ≡ 0 = let s = i.said e c in grind arith in
      let in_range = i.opens e o in
      record {
        lists = i.lists;
        led = i.led;
        ahead = λ e' o'. let a = i.ahead e' o' in grind (arith, nat_tests);
        nos = i.nos;
        less = λ e' o' two other. let l = i.less e' o' two other in let a = i.ahead e' o' in let p = i.past e' o' two in grind (arith, nat_tests);
        fit = λ e' two le. fit_later act x₀ v w g e' (v.leader e') (i.fit e' two le);
        none = λ c' z. let n = i.none c' in grind (arith, nat_tests);
        lives = λ c' z. let l = i.lives c' in grind (arith, nat_tests);
        leads = λ c' z q. let l = i.leads c' in grind (arith, nat_tests);
        follows = λ c' z q. let l = i.follows c' in grind (arith, nat_tests);
        begins = λ c' z k x h. let b : 0 < v.epoch c' → slice_get (v.opening (v.epoch c')) k ≡ Some x → slice_get (v.list c') k ≡ Some x = λ p. i.begins c' p k x in grind (arith, nat_tests);
        within = λ c' z k x h. let b : 0 < v.epoch c' → slice_get (v.list c') k ≡ Some x → slice_get (v.grown (v.epoch c')) k ≡ Some x = λ p. i.within c' p k x in let g = i.grows e o k x in grind (arith, nat_tests);
        own = λ c' k x h. let w = i.own c' k x h in let b = handed_begins v i c e o lt k x in grind (arith, nat_tests);
        kept = λ c'. kept_later act x₀ v w i g c' refl;
        done = i.done;
        spec = λ c' z q. let s = i.spec c' in grind (arith, nat_tests);
        said = λ e' f h. let s = i.said e' f in let le = prefix_length act x₀ (v.opening e) (v.grown e) (i.grows e o) in grind (arith, nat_tests);
        noes = λ n t f d. let q = i.noes n t f d in grind (arith, nat_tests);
      }
