-- A table of lists, each in its own stretch of 64 places.
use Rattle.std.proofs.Common.{◌≡◌, ℕ, ◌+◌, ◌-◌, ◌*◌, ◌<◌, ◌≤◌, ◌≢◌, ◌⊎◌, List, [], ◌∷◌, ◌++◌, length, get_or, take, drop, set, sym, refl, ap, ◌∙◌, inl, inr, arith}
use Rattle.std.proofs.lemmas.List.{same_lists, length-set, length-take-le, length-drop, length-append, get_or-take, get_or-drop, get_or-set_same, get_or-set_other, take_more_set, drop-set-add, get_or_append_left, get_or-append_right}
use Rattle.std.proofs.lemmas.Bool.{cases_eq, cases_lt}
use Rattle.machine.specs.Machine.{over}

module _ {A : Type 0} where
  -- the n places from a on
  pub length_part : (es : List A) (a n : ℕ) → a + n ≤ length es → length (take n (drop a es)) ≡ n
  length_part es a n h = length-take-le n (drop a es) (simp length-drop (omega arith))

  pub get_or_part : (es : List A) (a n k : ℕ) (d : A) → k < n → get_or (take n (drop a es)) k d ≡ get_or es (a + k) d
  get_or_part es a n k d h = get_or-take n (drop a es) k d h ∙ get_or-drop a es k d

  -- a write outside a stretch leaves it
  pub part_apart : (es : List A) (a n i : ℕ) (x : A) → a + n ≤ length es → ((i < a) ⊎ (a + n ≤ i)) → take n (drop a (set es i x)) ≡ take n (drop a es)
  part_apart es a n i x h out =
      same_lists _ _ (length_part (set es i x) a n (simp length-set h) ∙ sym (length_part es a n h))
      (λ k d l.
      let kn : k < n = omega (arith, length_part (set es i x) a n (simp length-set h)) in
      let ne : a + k ≢ i = λ q. elim out [ inl p ↦ omega arith | inr p ↦ omega arith ] in
      get_or_part (set es i x) a n k d kn ∙ get_or-set_other es i (a + k) x d ne ∙ sym (get_or_part es a n k d kn))

  -- a write in one controller's stretch leaves another's
  pub stretch_apart : (es : List A) (c d n k : ℕ) (x : A) → (d ≡ c → ⊥) → d < 8 → 512 ≤ length es → n ≤ 64 → k < 64
      → take n (drop (d * 64) (set es (c * 64 + k) x)) ≡ take n (drop (d * 64) es)
  stretch_apart es c d n k x ne db big short low =
      part_apart es (d * 64) n (c * 64 + k) x (omega arith)
      (elim (cases_lt c d) [ inl l ↦ inl (omega arith) | inr l ↦ inr (let m : c ≢ d = λ q. ne (sym q) in omega arith) ])

  -- a write at the end of a list is one entry more
  pub part_push : (es : List A) (a n : ℕ) (x : A) → a + n < length es → take (n + 1) (drop a (set es (a + n) x)) ≡ take n (drop a es) ++ x ∷ []
  part_push es a n x h = ap (λ (ys : List A). take (n + 1) ys) (drop-set-add a es n x) ∙ take_more_set (drop a es) n x (simp length-drop (omega arith))

  -- what stands at j after a write at i
  pub set_at : (xs : List A) (i j : ℕ) (x d : A) → i < length xs → ((j ≡ i) × (get_or (set xs i x) j d ≡ x)) ⊎ ((j ≡ i → ⊥) × (get_or (set xs i x) j d ≡ get_or xs j d))
  set_at xs i j x d h = elim (cases_eq j i) [ inl q ↦ inl (q, rw q (get_or-set_same xs i x d h)) | inr n ↦ inr (n, get_or-set_other xs i j x d n) ]

  -- a copy into a table
  pub length_over : (es xs : List A) (i : ℕ) → i + length xs ≤ length es → length (over es i xs) ≡ length es
  unfolding over
  length_over es xs i h = simp (length-append, length-take-le i es (omega arith), length-drop) (omega arith)

  pub over_in : (es xs : List A) (i k : ℕ) (d : A) → i + length xs ≤ length es → k < length xs → get_or (over es i xs) (i + k) d ≡ get_or xs k d
  unfolding over
  over_in es xs i k d h l =
      let n = length-take-le i es (omega arith) in
      get_or-append_right (take i es) (xs ++ drop (i + length xs) es) i (i + k) d n (omega arith)
      ∙ get_or_append_left xs (drop (i + length xs) es) d (i + k - i) (omega arith) ∙ ap (λ j. get_or xs j d) (omega arith)

  pub over_out : (es xs : List A) (i k : ℕ) (d : A) → i + length xs ≤ length es → ((k < i) ⊎ (i + length xs ≤ k)) → get_or (over es i xs) k d ≡ get_or es k d
  unfolding over
  over_out es xs i k d h (inl l) =
      get_or_append_left (take i es) (xs ++ drop (i + length xs) es) d k (rw (length-take-le i es (omega arith)) l) ∙ get_or-take i es k d l
  over_out es xs i k d h (inr l) =
      let n = length-take-le i es (omega arith) in
      get_or-append_right (take i es) (xs ++ drop (i + length xs) es) i k d n (omega arith)
      ∙ get_or-append_right xs (drop (i + length xs) es) (length xs) (k - i) d refl (omega arith)
      ∙ get_or-drop (i + length xs) es (k - i - length xs) d ∙ ap (λ j. get_or es j d) (omega arith)

  -- the stretch that a copy fills, and a stretch that it leaves
  pub part_over : (es xs : List A) (i : ℕ) → i + length xs ≤ length es → take (length xs) (drop i (over es i xs)) ≡ xs
  part_over es xs i h =
      let b : i + length xs ≤ length (over es i xs) = rw (length_over es xs i h) h in
      same_lists _ _ (length_part (over es i xs) i (length xs) b)
      (λ k d l. let kn : k < length xs = omega (arith, length_part (over es i xs) i (length xs) b) in get_or_part (over es i xs) i (length xs) k d kn ∙ over_in es xs i k d h kn)

  pub part_over_apart : (es xs : List A) (i a n : ℕ) → i + length xs ≤ length es → a + n ≤ length es → ((a + n ≤ i) ⊎ (i + length xs ≤ a))
      → take n (drop a (over es i xs)) ≡ take n (drop a es)
  part_over_apart es xs i a n h b out =
      let b' : a + n ≤ length (over es i xs) = rw (length_over es xs i h) b in
      same_lists _ _ (length_part (over es i xs) a n b' ∙ sym (length_part es a n b))
      (λ k d l.
      let kn : k < n = omega (arith, length_part (over es i xs) a n b') in
      let o : (a + k < i) ⊎ (i + length xs ≤ a + k) = elim out [ inl p ↦ inl (omega arith) | inr p ↦ inr (omega arith) ] in
      get_or_part (over es i xs) a n k d kn ∙ over_out es xs i (a + k) d h o ∙ sym (get_or_part es a n k d kn))
