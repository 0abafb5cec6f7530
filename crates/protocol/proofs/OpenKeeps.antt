-- A controller that opens an epoch which it leads keeps the invariant.
use Rattle.std.proofs.Common.{◌≡◌, ℕ, ◌<◌, ◌≤◌, true, length, Some, drop, refl, ap, arith}
use Rattle.std.specs.List.{slice_get}
use Rattle.std.proofs.lemmas.Bool.Decides.{nat_tests}
use Rattle.std.proofs.lemmas.Option.{slice_get_within}
use Rattle.std.proofs.lemmas.List.Sums.{fold-append}
use Rattle.entries.specs.declared.Entry.{Entry}
use Rattle.protocol.proofs.View.{View, open_epoch}
use Rattle.protocol.proofs.Inv.{Inv}
use Rattle.protocol.proofs.Lists.{prefix_split}
use Rattle.protocol.proofs.Later.{fit_later, kept_later, open_later}

module _ {U X : Type 0} (act : X → U → X) (x₀ : X) where
  pub open_keeps : (v : View U X) (c e : ℕ) → Inv act x₀ v → 2 ≤ e → e ≤ v.last → v.leader e ≡ c → v.promise c ≡ e → v.epoch c < e
      → Inv act x₀ (open_epoch act x₀ v c e)
  unfolding open_epoch
  open_keeps v c e i two le ld pr lt =
      let f = i.fit e two le in
      let come : f.0 ≤ v.epoch c = rw ld at f.4 in
      let pos : 0 < v.epoch c = omega (arith, f.1) in
      let p = v.epoch c in
      let po : v.opened p ≡ true = i.lives c pos in
      let shut : v.opened e ≡ true → ⊥ = λ o. let a = i.ahead e o in omega (arith, ap v.epoch ld) in
      let w = open_epoch act x₀ v c e in
      let later = open_later act x₀ v c e shut lt in
      record {
        lists = record {
          origin = let q = i.origin in grind (arith, nat_tests);
          grows = λ e' o' k x h. let a = i.grows e' in let b : v.opened e' ≡ true → slice_get (v.opening e') k ≡ Some x → slice_get (v.grown e') k ≡ Some x = λ o. a o k x in grind (arith, nat_tests);
          past = λ e' o' two'. let a = i.past e' in grind (arith, nat_tests);
          base = λ e' o' two' k x h. let a = i.past e' in let b : v.opened e' ≡ true → slice_get (v.opening (v.parent e')) k ≡ Some x → slice_get (v.opening e') k ≡ Some x = λ o. i.base e' o two' k x in let d = i.begins c pos k x in grind (arith, nat_tests);
          from = λ e' o' two' k x h. let a = i.past e' in let b : v.opened e' ≡ true → slice_get (v.opening e') k ≡ Some x → slice_get (v.grown (v.parent e')) k ≡ Some x = λ o. i.from e' o two' k x in let d = i.within c pos k x in grind (arith, nat_tests);
          old = λ e' k x o' h b. let a = i.old e' k x in let g = i.within c pos k x in let o = i.old p k x po in let n = i.new p k x po in grind (arith, nat_tests);
          new = λ e' k x o' h b. let a = i.new e' k x in let w = slice_get_within (v.list c) k x in grind (arith, nat_tests);
          serials = λ e' a b x y o' h g r. let d = i.serials e' a b x y in let f = i.serials p a b x y po in let j = i.within c pos a x in let l = i.within c pos b y in grind (arith, nat_tests);
          made = λ e' k o' a b. let d = i.made e' k in grind (arith, nat_tests);
        };
        led = record {
          lawful = i.lawful;
          opens = λ e' o'. let q = i.opens e' in grind (arith, nat_tests);
          inside = λ e' o' two'. let a = i.inside e' in let b = i.follows c pos in let d = i.opens p po in let g = i.lawful p in grind (arith, nat_tests);
          same = λ e' o' two' l k x h. let a = i.past e' in let b : v.opened e' ≡ true → v.leader e' ≡ v.leader (v.parent e') → slice_get (v.grown (v.parent e')) k ≡ Some x → slice_get (v.opening e') k ≡ Some x = λ o q. i.same e' o two' q k x in let d = i.leads c pos in grind (arith, nat_tests);
        };
        ahead = λ e' o'. let a = i.ahead e' in grind (arith, nat_tests);
        nos = λ e' o' two' u a b. let d : v.opened e' ≡ true → v.parent e' < u → (g : ℕ) × (v.denied e' u g ≡ true) = λ o l. i.nos e' o two' u l b in let n = f.3 u in grind (arith, nat_tests);
        less = λ e' o' two' l. let a = i.less e' in let s = i.said p c in let b = i.ahead e' in let d = i.past e' in grind (arith, nat_tests);
        fit = λ e' t l. fit_later act x₀ v w later e' (v.leader e') (i.fit e' t l);
        none = λ c' z. let n = i.none c' in grind (arith, nat_tests);
        lives = λ c' z. let l = i.lives c' in grind (arith, nat_tests);
        leads = λ c' z l. let a = i.leads c' in let b = i.lives c' in grind (arith, nat_tests);
        follows = λ c' z q. let l = i.follows c' in grind (arith, nat_tests);
        begins = λ c' z k x h. let b : 0 < v.epoch c' → slice_get (v.opening (v.epoch c')) k ≡ Some x → slice_get (v.list c') k ≡ Some x = λ o. i.begins c' o k x in let a = i.lives c' in grind (arith, nat_tests);
        within = λ c' z k x h. let b : 0 < v.epoch c' → slice_get (v.list c') k ≡ Some x → slice_get (v.grown (v.epoch c')) k ≡ Some x = λ o. i.within c' o k x in let a = i.lives c' in grind (arith, nat_tests);
        own = i.own;
        kept = λ c'. kept_later act x₀ v w i later c' refl;
        done = i.done;
        spec = λ c' z l. let a = i.spec c' in let b = i.lives c' in let d = i.done c in let s = prefix_split act x₀ (v.handed c) (v.list c) (i.own c) in let g = fold-append (λ m (e : Entry U). act m e.update) x₀ (v.handed c) (drop (length (v.handed c)) (v.list c)) in grind (arith, nat_tests);
        said = λ e' g h. let s = i.said e' g h in grind (arith, nat_tests);
        noes = λ n t g d. let q = i.noes n t g d in grind (arith, nat_tests);
      }
