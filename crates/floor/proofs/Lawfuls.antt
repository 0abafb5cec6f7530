-- Floors of sound controllers.
use Rattle.std.proofs.Common.{◌≡◌, ℕ, ◌≤◌, ◌⊎◌, List, length, get_or, set, replicate, sym, ap, subst, inl, inr, arith}
use Rattle.std.proofs.lemmas.Bool.{cases_lt, cases_eq, cond_both}
use Rattle.std.proofs.lemmas.List.{length-set, get_or-set_same, get_or-set_other, set_past, get_or-replicate}
use Rattle.std.proofs.lemmas.List.FromFn.{get_or-map-range_with_len}
use Rattle.machine.specs.declared.controller.Controller.{Controller}
use Rattle.config.specs.Members.{member}
use Rattle.machine.specs.Rows.{no_controller, joined, all_joined}
use Rattle.floor.specs.Lawful.{Sound, Lawful, Short}

-- what stands at j after a write at i
pub set_tells : {X : Type 0} (xs : List X) (i : ℕ) (x : X) (j : ℕ) (d : X) → (get_or (set xs i x) j d ≡ x) ⊎ (get_or (set xs i x) j d ≡ get_or xs j d)
set_tells xs i x j d =
    elim (cases_lt i (length xs)) [
      | inl l ↦ elim (cases_eq j i) [ inl e ↦ inl (rw e (get_or-set_same xs i x d l)) | inr n ↦ inr (get_or-set_other xs i j x d n) ]
      | inr l ↦ inr (ap (λ ys. get_or ys j d) (set_past xs i x l))
    ]

-- a floor stays lawful where one controller is exchanged for a sound one
pub lawful_set : (ks : List Controller) (i : ℕ) (k : Controller) → Lawful ks → Sound k → Lawful (set ks i k)
lawful_set ks i k h s c b = elim (set_tells ks i k c no_controller) [ inl p ↦ rw p s | inr p ↦ rw p (h c b) ]

pub kept_set : (ks : List Controller) (i : ℕ) (k : Controller) → length ks ≡ 8 → Lawful ks → Sound k → (length (set ks i k) ≡ 8) × Lawful (set ks i k)
kept_set ks i k n h s = (simp length-set n, lawful_set ks i k h s)

-- opening lists stay short where the length of one is exchanged for a short one
pub short_set : (ls : List ℕ) (i n : ℕ) → Short ls → n ≤ 64 → Short (set ls i n)
short_set ls i n h s k b = elim (set_tells ls i n k 0) [ inl p ↦ rw p s | inr p ↦ rw p (h k b) ]

-- a floor of eight sound controllers that are alike is lawful
pub lawful_new : (k : Controller) → Sound k → Lawful (replicate 8 k)
lawful_new k s c h = subst Sound (sym (get_or-replicate 8 c k no_controller h)) s

pub short_new : Short (replicate 32 0)
short_new k h = subst (λ (n : ℕ). n ≤ 64) (sym (get_or-replicate 32 k 0 0 h)) (omega arith)

-- a member that joins epoch 1 is sound, and others are as they were
pub sound_joined : (m l c : ℕ) (k : Controller) → Sound k → Sound (joined m l c k)
sound_joined m l c k s = cond_both {A = Controller} (member m c) _ k Sound (λ _. (omega arith, omega arith)) (λ _. s)

pub lawful_joined : (m l : ℕ) (ks : List Controller) → Lawful ks → Lawful (all_joined m l ks)
unfolding all_joined
lawful_joined m l ks h c b =
    let each : ℕ → Controller = λ i. joined m l i (get_or ks i no_controller) in
    subst Sound (sym (get_or-map-range_with_len each 0 8 c c no_controller b (omega arith))) (sound_joined m l c (get_or ks c no_controller) (h c b))
