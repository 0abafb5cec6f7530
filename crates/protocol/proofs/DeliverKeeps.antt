-- A delivery keeps what holds.
use Rattle.std.proofs.Common.{◌≡◌, ℕ, ◌<◌, ◌≤◌, length, take, drop, inl, inr, arith}
use Rattle.std.proofs.lemmas.Bool.Decides.{nat_tests}
use Rattle.std.proofs.lemmas.Bool.{cases_eq}
use Rattle.std.proofs.lemmas.List.{length-take-le}
use Rattle.std.proofs.lemmas.Option.{slice_get_within}
use Rattle.std.proofs.lemmas.List.Sums.{fold-append}
use Rattle.entries.specs.declared.Entry.{Entry}
use Rattle.protocol.proofs.View.{View, upd, Prefix, fold, AllHeld, deliver}
use Rattle.protocol.proofs.Inv.{Inv}
use Rattle.protocol.proofs.Lists.{take_tells, prefix_split}
use Rattle.protocol.proofs.Later.{kept_later, deliver_later}

module _ {U X : Type 0} (ap : X → U → X) (x₀ : X) where
  -- what every member held of an epoch it still holds
  deliver_held : (v : View U X) (c n e m : ℕ) → AllHeld ap x₀ v e m → AllHeld ap x₀ (deliver ap x₀ v c n) e m
  unfolding deliver
  deliver_held v c n e m a = record { opened = a.opened; within = a.within; each = a.each }

  -- what was delivered before begins what is delivered now
  deliver_grows : (v : View U X) (c n : ℕ) → Inv ap x₀ v → length (v.handed c) ≤ n → Prefix ap x₀ (v.handed c) (take n (v.list c))
  deliver_grows v c n i l k x e = let a = i.own c k x e in let b = slice_get_within (v.handed c) k x e in grind (arith, take_tells)

  -- the new committed state is the fold over all that is delivered now
  deliver_fold : (v : View U X) (c n : ℕ) → Inv ap x₀ v → 1 ≤ v.last → length (v.handed c) ≤ n → fold ap x₀ (v.committed c) (drop (length (v.handed c)) (take n (v.list c))) ≡ fold ap x₀ x₀ (take n (v.list c))
  deliver_fold v c n i s l =
      let t = drop (length (v.handed c)) (take n (v.list c)) in
      let a = i.done c s in
      let b = prefix_split ap x₀ (v.handed c) (take n (v.list c)) (deliver_grows v c n i l) in
      let d = fold-append (λ m (e : Entry U). ap m e.update) x₀ (v.handed c) t in
      cc

  -- a delivery: its entries are of the list held, and every member of the epoch holds them
  pub deliver_keeps : (v : View U X) (c n : ℕ) → Inv ap x₀ v → 0 < v.epoch c → length (v.handed c) ≤ n → n ≤ length (v.list c) → AllHeld ap x₀ v (v.epoch c) n → Inv ap x₀ (deliver ap x₀ v c n)
  unfolding deliver
  deliver_keeps v c n i h l m a =
      let g = deliver_later ap x₀ v c n i l in
      record {
        lists = i.lists;
        led = i.led;
        ahead = i.ahead;
        nos = i.nos;
        less = i.less;
        fit = i.fit;
        none = i.none;
        lives = i.lives;
        leads = i.leads;
        follows = i.follows;
        begins = i.begins;
        within = i.within;
        own = λ d k x e. let b = i.own d k x in grind (arith, nat_tests, take_tells);
        kept = λ d. elim (cases_eq d c) [
          | inl z ↦
              let w : upd v.handed c (take n (v.list c)) d ≡ take n (v.list c) = grind (arith, nat_tests) in
              rw (w, length-take-le n (v.list c) m, z) (inr (v.epoch c, omega arith, deliver_held v c n (v.epoch c) n a, λ k x e. let b = i.within c h k x in grind (arith, take_tells)))
          | inr z ↦
              let w : upd v.handed c (take n (v.list c)) d ≡ v.handed d = grind (arith, nat_tests) in
              kept_later ap x₀ v (deliver ap x₀ v c n) i g d w
        ];
        done = λ d s. let b = i.done d s in let f = deliver_fold v c n i s l in grind (arith, nat_tests);
        spec = i.spec;
        said = i.said;
        noes = i.noes;
      }
