-- Lists by their places.
use Rattle.std.proofs.Common.{◌≡◌, ℕ, zero, suc, ◌<◌, ◌≤◌, ◌⊎◌, List, [], ◌∷◌, ◌++◌, length, take, drop, Some, None, refl, ap, inl, inr, arith}
use Rattle.std.specs.List.{slice_get}
use Rattle.std.proofs.lemmas.Bool.{cases_lt}
use Rattle.std.proofs.lemmas.List.{append-nil, drop_all}
use Rattle.entries.specs.declared.Entry.{Entry}
use Rattle.protocol.proofs.View.{Prefix}

module _ {A : Type 0} where
  -- a list with one more at its end, place by place
  pub push_tells : (xs : List A) (y : A) (k : ℕ) → ((slice_get (xs ++ y ∷ []) k ≡ Some y) × (k ≡ length xs)) ⊎ ((slice_get (xs ++ y ∷ []) k ≡ slice_get xs k) × (k ≡ length xs → ⊥))
  push_tells [] y zero = inl (refl, refl)
  push_tells [] y (suc k) = inr (refl, λ e. omega arith)
  push_tells (x ∷ xs) y zero = inr (refl, λ e. omega arith)
  push_tells (x ∷ xs) y (suc k) = elim (push_tells xs y k) [ inl (e, p) ↦ inl (e, ap suc p) | inr (e, n) ↦ inr (e, λ p. n (omega arith)) ]

  -- what stands between two lists in a row
  pub nth_append : (xs : List A) (y : A) (ys : List A) → slice_get (xs ++ y ∷ ys) (length xs) ≡ Some y
  nth_append [] y ys = refl
  nth_append (x ∷ xs) y ys = nth_append xs y ys

  pub push_last : (xs : List A) (y : A) (k : ℕ) → k ≡ length xs → slice_get (xs ++ y ∷ []) k ≡ Some y
  push_last xs y k e = rw e (nth_append xs y [])

  -- what stands in a list stands in it with more at its end
  pub append_keeps : (xs ys : List A) (x : A) (k : ℕ) → slice_get xs k ≡ Some x → slice_get (xs ++ ys) k ≡ Some x
  append_keeps [] ys x k h = absurd cc
  append_keeps (z ∷ xs) ys x zero h = h
  append_keeps (z ∷ xs) ys x (suc k) h = append_keeps xs ys x k h

  -- the beginning of a list, place by place
  pub take_tells : (n : ℕ) (xs : List A) (k : ℕ) → ((slice_get (take n xs) k ≡ slice_get xs k) × (k < n)) ⊎ ((slice_get (take n xs) k ≡ None) × (n ≤ k))
  take_tells zero xs k = inr (refl, omega arith)
  take_tells (suc n) [] k = elim (cases_lt k (suc n)) [ inl l ↦ inl (refl, l) | inr l ↦ inr (refl, l) ]
  take_tells (suc n) (x ∷ xs) zero = inl (refl, omega arith)
  take_tells (suc n) (x ∷ xs) (suc k) = elim (take_tells n xs k) [ inl (e, l) ↦ inl (e, omega arith) | inr (e, l) ↦ inr (e, omega arith) ]

  -- lists with the same entry at every place are equal
  pub same_places : (xs ys : List A) → ((k : ℕ) → slice_get xs k ≡ slice_get ys k) → xs ≡ ys
  same_places [] [] h = refl
  same_places [] (y ∷ ys) h = absurd (cc (h 0))
  same_places (x ∷ xs) [] h = absurd (cc (h 0))
  same_places (x ∷ xs) (y ∷ ys) h = let e = h 0 in let f = same_places xs ys (λ k. h (suc k)) in cc

module _ {U X : Type 0} (ap : X → U → X) (x₀ : X) where
  -- a beginning is no longer than the whole
  pub prefix_length : (a b : List (Entry U)) → Prefix ap x₀ a b → length a ≤ length b
  prefix_length [] b h = omega arith
  prefix_length (x ∷ a) [] h = absurd (cc (h 0 x refl))
  prefix_length (x ∷ a) (y ∷ b) h = let l = prefix_length a b (λ k. h (suc k)) in omega arith

  -- a list is its beginning and the rest
  pub prefix_split : (a b : List (Entry U)) → Prefix ap x₀ a b → b ≡ a ++ drop (length a) b
  prefix_split [] b h = refl
  prefix_split (x ∷ a) [] h = absurd (cc (h 0 x refl))
  prefix_split (x ∷ a) (y ∷ b) h = let e = h 0 x refl in let f = prefix_split a b (λ k. h (suc k)) in cc

  -- two lists that begin each other are equal
  pub prefix_same : (a b : List (Entry U)) → Prefix ap x₀ a b → Prefix ap x₀ b a → a ≡ b
  prefix_same a b g h = let e = prefix_split a b g in let d = drop_all (length a) b (prefix_length b a h) in let n = append-nil a in cc
