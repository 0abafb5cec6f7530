-- A leader that makes an entry keeps the invariant.
use Rattle.std.proofs.Common.{◌≡◌, ℕ, ◌<◌, true, [], ◌∷◌, Some, refl, arith}
use Rattle.std.specs.List.{slice_get}
use Rattle.std.proofs.lemmas.List.{length_push, take-append-le, take_at}
use Rattle.std.proofs.lemmas.Bool.Decides.{nat_tests}
use Rattle.std.proofs.lemmas.List.Sums.{fold-append}
use Rattle.entries.specs.declared.Entry.{Entry}
use Rattle.protocol.proofs.View.{View, order}
use Rattle.protocol.proofs.Inv.{Inv}
use Rattle.protocol.proofs.Lists.{push_tells, append_keeps, prefix_length}
use Rattle.protocol.proofs.Later.{kept_later, order_later}

module _ {U X : Type 0} (act : X → U → X) (x₀ : X) where
  pub order_keeps : (v : View U X) (c : ℕ) (x : Entry U) → Inv act x₀ v → 0 < v.epoch c → v.leader (v.epoch c) ≡ c → x.epoch ≡ v.epoch c
      → ((k : ℕ) (y : Entry U) → slice_get (v.list c) k ≡ Some y → y.serial ≡ x.serial → ⊥)
      → Inv act x₀ (order act x₀ v c x)
  unfolding order
  order_keeps v c x i pos ld xe fresh =
      let e = v.epoch c in
      let g = v.grown e in
      let o : v.opened e ≡ true = i.lives c pos in
      let same_list : v.list c ≡ g = i.leads c pos ld in
      let w = order act x₀ v c x in
      let later = order_later act x₀ v c x in
      record {
        lists = record {
          origin = i.origin;
          grows = λ e' o' k y h. later.grown e' o' k y (i.grows e' o' k y h);
          past = i.past;
          base = i.base;
          from = λ e' o' two k y h. let z = i.past e' o' two in later.grown (v.parent e') z.2 k y (i.from e' o' two k y h);
          old = λ e' k y o' h b. let le = prefix_length act x₀ (v.opening e') (v.grown e') (i.grows e' o') in let a = i.old e' k y o' in grind (arith, nat_tests, push_tells);
          new = λ e' k y o' h b. let a = i.new e' k y o' in grind (arith, nat_tests, push_tells);
          serials = λ e' a b y z o' h k r. let d = i.serials e' a b y z o' in let m = fresh a y in let n = fresh b z in grind (arith, nat_tests, push_tells);
          made = λ e' k o' a b. let d = i.made e' k o' in let s = i.spec c pos ld in let u = take_at g (x ∷ []) k in let r = take-append-le k g (x ∷ []) in grind (arith, nat_tests, length_push);
        };
        led = record {
          lawful = i.lawful;
          opens = i.opens;
          inside = i.inside;
          same = λ e' o' two l k y h. let a = i.ahead e' o' in let z = i.past e' o' two in let b = i.same e' o' two l k y in grind (arith, nat_tests);
        };
        ahead = i.ahead;
        nos = i.nos;
        less = i.less;
        fit = i.fit;
        none = λ c' z. let n = i.none c' in grind (arith, nat_tests);
        lives = i.lives;
        leads = λ c' z l. let a = i.leads c' z in grind (arith, nat_tests);
        follows = i.follows;
        begins = λ c' z k y h. let a = i.begins c' z k y h in let b = append_keeps (v.list c') (x ∷ []) y k a in grind (arith, nat_tests);
        within = λ c' z k y h. let a = i.within c' z k y in let b = later.grown (v.epoch c') (i.lives c' z) k y in grind (arith, nat_tests);
        own = λ c' k y h. let a = i.own c' k y h in let b = append_keeps (v.list c') (x ∷ []) y k a in grind (arith, nat_tests);
        kept = λ c'. kept_later act x₀ v w i later c' refl;
        done = i.done;
        spec = λ c' z l. let a = i.spec c' z l in let f = fold-append (λ m (e : Entry U). act m e.update) x₀ (v.list c) (x ∷ []) in grind (arith, nat_tests);
        said = λ e' f h. let s = i.said e' f h in let l = prefix_length act x₀ (v.grown e') (w.grown e') (later.grown e' s.0) in grind (arith, nat_tests, length_push);
        noes = i.noes;
      }
