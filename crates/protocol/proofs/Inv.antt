-- What holds of every view that the steps make.
use Rattle.std.proofs.Common.{◌≡◌, ℕ, ◌<◌, ◌≤◌, true, false, ◌⊎◌, [], length, take, Some}
use Rattle.std.specs.List.{slice_get}
use Rattle.entries.specs.declared.Entry.{Entry}
use Rattle.protocol.proofs.View.{View, Configs, Epochs, fold, Prefix, Nos, Kept, Fit}

module _ {U X : Type 0} (ap : X → U → X) (x₀ : X) where
  -- the lists of the opened epochs, and their entries
  pub record Grows (s : Epochs U X) : Type 0 where
    pub origin : s.opening 1 ≡ []
    pub grows : (e : ℕ) → s.opened e ≡ true → Prefix ap x₀ (s.opening e) (s.grown e)
    pub past : (e : ℕ) → s.opened e ≡ true → 2 ≤ e → (1 ≤ s.parent e) × (s.parent e < e) × (s.opened (s.parent e) ≡ true)
    pub base : (e : ℕ) → s.opened e ≡ true → 2 ≤ e → Prefix ap x₀ (s.opening (s.parent e)) (s.opening e)
    pub from : (e : ℕ) → s.opened e ≡ true → 2 ≤ e → Prefix ap x₀ (s.opening e) (s.grown (s.parent e))
    pub old : (e k : ℕ) (x : Entry U) → s.opened e ≡ true → slice_get (s.grown e) k ≡ Some x → k < length (s.opening e) → x.epoch < e
    pub new : (e k : ℕ) (x : Entry U) → s.opened e ≡ true → slice_get (s.grown e) k ≡ Some x → length (s.opening e) ≤ k → x.epoch ≡ e
    pub serials : (e i j : ℕ) (x y : Entry U) → s.opened e ≡ true → slice_get (s.grown e) i ≡ Some x → slice_get (s.grown e) j ≡ Some y → x.serial ≡ y.serial → i ≡ j
    pub made : (e k : ℕ) → s.opened e ≡ true → length (s.opening e) ≤ k → k < length (s.grown e) → s.found e k ≡ fold ap x₀ x₀ (take k (s.grown e))

  -- who led the opened epochs
  pub record Led (c : Configs) (s : Epochs U X) : Type 0 where
    pub lawful : (e : ℕ) → 1 ≤ e → e ≤ c.last → c.member e (c.leader e) ≡ true
    pub opens : (e : ℕ) → s.opened e ≡ true → (1 ≤ e) × (e ≤ c.last)
    pub inside : (e : ℕ) → s.opened e ≡ true → 2 ≤ e → c.member (s.parent e) (c.leader e) ≡ true
    pub same : (e : ℕ) → s.opened e ≡ true → 2 ≤ e → c.leader e ≡ c.leader (s.parent e) → Prefix ap x₀ (s.grown (s.parent e)) (s.opening e)

  pub record Inv (v : View U X) : Type 0 where
    pub lists : Grows v.epochs
    pub open lists use *
    pub led : Led v.configs v.epochs
    pub open led use *
    -- epochs
    pub ahead : (e : ℕ) → v.opened e ≡ true → e ≤ v.epoch (v.leader e)
    pub nos : (e : ℕ) → v.opened e ≡ true → 2 ≤ e → Nos ap x₀ v (v.parent e) e
    pub less : (e : ℕ) → v.opened e ≡ true → 2 ≤ e → (v.leader e ≡ v.leader (v.parent e) → ⊥) → v.held (v.parent e) (v.leader e) ≤ length (v.opening e)
    pub fit : (e : ℕ) → 2 ≤ e → e ≤ v.last → Fit ap x₀ v e (v.leader e)
    -- controllers
    pub none : (c : ℕ) → v.epoch c ≡ 0 → v.list c ≡ []
    pub lives : (c : ℕ) → 0 < v.epoch c → v.opened (v.epoch c) ≡ true
    pub leads : (c : ℕ) → 0 < v.epoch c → v.leader (v.epoch c) ≡ c → v.list c ≡ v.grown (v.epoch c)
    pub follows : (c : ℕ) → 0 < v.epoch c → (v.leader (v.epoch c) ≡ c → ⊥) → v.member (v.epoch c) c ≡ true
    pub begins : (c : ℕ) → 0 < v.epoch c → Prefix ap x₀ (v.opening (v.epoch c)) (v.list c)
    pub within : (c : ℕ) → 0 < v.epoch c → Prefix ap x₀ (v.list c) (v.grown (v.epoch c))
    pub own : (c : ℕ) → Prefix ap x₀ (v.handed c) (v.list c)
    pub kept : (c : ℕ) → Kept ap x₀ v c
    pub done : (c : ℕ) → 1 ≤ v.last → v.committed c ≡ fold ap x₀ x₀ (v.handed c)
    pub spec : (c : ℕ) → 0 < v.epoch c → v.leader (v.epoch c) ≡ c → v.speculative c ≡ fold ap x₀ x₀ (v.list c)
    -- what was said
    pub said : (e f : ℕ) → 0 < v.held e f → (v.opened e ≡ true) × (v.held e f ≤ length (v.grown e)) × (e ≤ v.epoch f) × (v.epoch f ≡ e → v.held e f ≤ length (v.list f))
    pub noes : (n t f : ℕ) → v.denied n t f ≡ true → (1 ≤ t) × (t < n) × (t ≤ v.last) × (n ≤ v.promise f) × (v.member t f ≡ true) × ((v.epoch f < t) ⊎ (n ≤ v.epoch f)) × (v.held t f ≡ 0) × (v.leader t ≡ f → v.opened t ≡ false)
