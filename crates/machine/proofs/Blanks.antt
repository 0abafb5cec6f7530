-- Rows that are alike.
use Rattle.std.proofs.Common.{◌≡◌, ℕ, zero, suc, ◌+◌, map, replicate, ◌∷◌, refl, ap}
use Rattle.std.specs.List.{range_with_len}
use Rattle.machine.specs.Blank.{blank}

same_by_map : {X : Type 0} (n a : ℕ) (x : X) → map (λ _. x) (range_with_len a n) ≡ replicate n x
same_by_map zero a x = refl
same_by_map (suc n) a x = ap (λ xs. x ∷ xs) (same_by_map n (a + 1) x)

pub blank_is : {X : Type 0} (n : ℕ) (x : X) → blank n x ≡ replicate n x
unfolding blank
blank_is n x = same_by_map n 0 x
