-- What follows from the invariant in a single view.
use Rattle.std.proofs.Common.{◌≡◌, ℕ, zero, suc, ◌<◌, ◌≤◌, true, [], length, Some, sym, ap, ◌∙◌, inl, inr, arith}
use Rattle.std.specs.List.{slice_get}
use Rattle.std.proofs.lemmas.Bool.{cases_lt, cases_eq}
use Rattle.std.proofs.lemmas.Option.{slice_get-get_or}
use Rattle.entries.specs.declared.Entry.{Entry}
use Rattle.protocol.proofs.View.{View, AllHeld}
use Rattle.protocol.proofs.Inv.{Inv}

module _ {U X : Type 0} (act : X → U → X) (x₀ : X) where
  -- KEY: what every member holds in epoch t begins the list of every epoch opened above t
  key_below : (v : View U X) → Inv act x₀ v → (t n : ℕ) → 0 < n → AllHeld act x₀ v t n → (b e : ℕ) → e ≤ b → v.opened e ≡ true → t < e
      → (k : ℕ) (x : Entry U) → k < n → slice_get (v.grown t) k ≡ Some x → slice_get (v.opening e) k ≡ Some x
  key_below v i t n pos a zero e le o lt k x kn h = absurd (omega arith)
  key_below v i t n pos a (suc b) e le o lt k x kn h =
      let two : 2 ≤ e = let q = i.opens t a.opened in omega (arith, q.0) in
      let p = v.parent e in
      let pa = i.past e o two in
      elim (cases_lt p t) [
        -- t lies above the parent: some member of t denied it
        | inl above ↦
            let no = i.nos e o two t above lt in
            let g = no.0 in
            let q = i.noes e t g no.1 in
            elim (cases_eq g (v.leader t)) [
              | inl lead ↦ let z = q.7 (sym lead) in let y = a.opened in absurd cc
              | inr other ↦ let w = a.each g q.4 other in absurd (omega (arith, q.6))
            ]
        | inr not_above ↦ elim (cases_eq t p) [
          -- t is the parent
          | inl eq ↦ elim (cases_eq (v.leader e) (v.leader p)) [
            | inl lead ↦ i.same e o two lead k x (rw (sym eq) h)
            | inr other ↦
                let w = a.each (v.leader e) (rw eq (i.inside e o two)) (rw eq other) in
                let l = i.less e o two other in
                let within : k < length (v.opening e) = omega (arith, w, ap (λ q. v.held q (v.leader e)) eq) in
                let s = slice_get-get_or (v.opening e) k x within in
                s ∙ sym (i.from e o two k _ s) ∙ rw (sym eq) h
          ]
          -- t lies below the parent
          | inr below ↦ i.base e o two k x (key_below v i t n pos a b p (omega (arith, pa.1)) pa.2 (omega arith) k x kn h)
        ]
      ]

  pub key : (v : View U X) → Inv act x₀ v → (t n e : ℕ) → AllHeld act x₀ v t n → v.opened e ≡ true → t < e
      → (k : ℕ) (x : Entry U) → k < n → slice_get (v.grown t) k ≡ Some x → slice_get (v.opening e) k ≡ Some x
  key v i t n e a o lt k x kn h = key_below v i t n (omega arith) a e e (omega arith) o lt k x kn h

  -- BACK: an entry of a list was made in the epoch that it names, at the same place after the same beginning
  pub record Back (v : View U X) (e k q : ℕ) : Type 0 where
    pub opened : v.opened q ≡ true
    pub after : length (v.opening q) ≤ k
    pub alike : (j : ℕ) (y : Entry U) → j ≤ k → slice_get (v.grown e) j ≡ Some y → slice_get (v.grown q) j ≡ Some y

  back_below : (v : View U X) → Inv act x₀ v → (b e k : ℕ) (x : Entry U) → e ≤ b → v.opened e ≡ true → slice_get (v.grown e) k ≡ Some x → Back v e k x.epoch
  back_below v i zero e k x le o h = let q = i.opens e o in absurd (omega arith)
  back_below v i (suc b) e k x le o h =
      elim (cases_lt k (length (v.opening e))) [
        | inl short ↦
            elim (cases_lt 1 e) [
              | inl two ↦
                  let pa = i.past e o two in
                  let at_parent : (j : ℕ) (y : Entry U) → j ≤ k → slice_get (v.grown e) j ≡ Some y → slice_get (v.grown (v.parent e)) j ≡ Some y =
                  λ j y jk g. let z = slice_get-get_or (v.opening e) j y (omega arith) in
                  i.from e o two j y (z ∙ sym (i.grows e o j _ z) ∙ g) in
                  let r = back_below v i b (v.parent e) k x (omega (arith, pa.1)) pa.2 (at_parent k x (omega arith) h) in
                  record { opened = r.opened; after = r.after; alike = λ j y jk g. r.alike j y jk (at_parent j y jk g) }
              | inr one ↦
                  let q = i.opens e o in
                  let e1 : e ≡ 1 = omega (arith, q.0) in
                  let n : v.opening e ≡ [] = rw e1 i.origin in
                  absurd (omega (arith, ap length n))
            ]
        | inr long ↦
            let q = i.new e k x o h long in
            rw q (record { opened = o; after = long; alike = λ j y jk g. g })
      ]

  pub back : (v : View U X) → Inv act x₀ v → (e k : ℕ) (x : Entry U) → v.opened e ≡ true → slice_get (v.grown e) k ≡ Some x → Back v e k x.epoch
  back v i e k x o h = back_below v i e e k x (omega arith) o h
