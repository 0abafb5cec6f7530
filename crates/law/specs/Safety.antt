-- What holds over every life of a floor.
use Rattle.std.specs.Prelude.{◌≡◌, ℕ, ◌<◌, ◌≤◌, List, [], ◌∷◌, ◌++◌, length, take, Some, Ok, slice_index_or}
use Rattle.std.specs.List.{slice_get}
use Rattle.service.specs.Meant.{Meant}
use Rattle.config.specs.Configured.{Kept}
use Rattle.entries.specs.declared.Entry.{Entry}
use Rattle.machine.specs.declared.envelope.Message.TheVariants.{NewConfig}
use Rattle.machine.specs.Machine.{at, run}
use Rattle.machine.specs.Changes.{order, settle, hand}
use Rattle.law.specs.Lives.{World, New, Call, outcome, moment, holds, letter, delivers, delivered}

-- xs is the beginning of ys
abbrev pub Begins : {A : Type 0} → List A → List A → Type 0
Begins {A} xs ys = (zs : List A) × (ys ≡ xs ++ zs)

module _ (M : Meant) where
  -- by call i, controller c settles xs in its epoch e: a granted settle answering n, and the first n entries of its list
  pub record Settles (w : World M) (ks : List (Call M)) (i c e : ℕ) (xs : List (Entry M.Update)) : Type 0 where
    pub call : Call M
    pub there : slice_get ks i ≡ Some call
    pub made : call.made ≡ settle c
    pub count : ℕ
    pub granted : (outcome M (moment M w ks i) call).answer ≡ Ok count
    pub epoch : e ≡ (at M (moment M w ks i).floor c).epoch
    pub list : xs ≡ take count (holds M (moment M w ks i).floor c)

  -- by call i, controller c opens epoch e with the list ys that it then holds: a granted hand of NEWCONFIG(e)
  pub record Opens (w : World M) (ks : List (Call M)) (i c e : ℕ) (ys : List (Entry M.Update)) : Type 0 where
    pub call : Call M
    pub there : slice_get ks i ≡ Some call
    pub envelope : ℕ
    pub members : ℕ
    pub made : call.made ≡ hand envelope c
    pub says : letter M (moment M w ks i).floor envelope ≡ NewConfig e members
    pub answer : ℕ
    pub granted : (outcome M (moment M w ks i) call).answer ≡ Ok answer
    pub list : ys ≡ holds M (outcome M (moment M w ks i) call).after c

  -- by call i, controller c works the entry x out, in a speculative state of meaning m: a granted order
  pub record WorksOut (w : World M) (ks : List (Call M)) (i c : ℕ) (x : Entry M.Update) (m : M.Meaning) : Type 0 where
    pub call : Call M
    pub there : slice_get ks i ≡ Some call
    pub serial : ℕ
    pub command : M.Command
    pub made : call.made ≡ order c serial command
    pub answer : ℕ
    pub granted : (outcome M (moment M w ks i) call).answer ≡ Ok answer
    pub entry : holds M (outcome M (moment M w ks i) call).after c ≡ holds M (moment M w ks i).floor c ++ x ∷ []
    pub state : m ≡ M.mean (slice_index_or (moment M w ks i).floor.speculative c M.opening)

  -- by call i, controller c delivers the entry x, which goes into a committed state of meaning m
  pub record Delivers (w : World M) (ks : List (Call M)) (i c : ℕ) (x : Entry M.Update) (m : M.Meaning) : Type 0 where
    pub call : Call M
    pub there : slice_get ks i ≡ Some call
    pub before : List (Entry M.Update)
    pub after : List (Entry M.Update)
    pub applied : delivers M (moment M w ks i).floor call.made (outcome M (moment M w ks i) call).answer c ≡ before ++ x ∷ after
    pub state : m ≡ M.mean (run M (slice_index_or (moment M w ks i).floor.committed c M.opening) before)

  -- Delivered lists agree. Of two delivered lists, taken at any two moments, the shorter is the beginning of the longer;
  -- each is the beginning of its controller's own list of that moment.
  abbrev pub Agree : World M → List (Call M) → Type 0
  Agree w ks =
      ((i j c d : ℕ) → c < 8 → d < 8 → length (delivered M w (take i ks) c) ≤ length (delivered M w (take j ks) d) → Begins (delivered M w (take i ks) c) (delivered M w (take j ks) d))
      × ((i c : ℕ) → c < 8 → Begins (delivered M w (take i ks) c) (holds M (moment M w ks i).floor c))

  -- What is settled stays. What one settled in epoch e begins every list with which the other opens a later epoch,
  -- whichever of the two came first in time.
  abbrev pub Stays : World M → List (Call M) → Type 0
  Stays w ks =
      (i j c d e e' : ℕ) (xs ys : List (Entry M.Update)) → Settles w ks i c e xs → Opens w ks j d e' ys → e < e' → Begins xs ys

  -- Updates go where they were made. An entry that one delivers and the other worked out goes into a committed state
  -- of the same meaning as the speculative state that its order found.
  abbrev pub Matches : World M → List (Call M) → Type 0
  Matches w ks = (i j c d : ℕ) (x : Entry M.Update) (m m' : M.Meaning) → WorksOut w ks i c x m → Delivers w ks j d x m' → m ≡ m'

  -- the law: over every life of every new floor, with a configuration service that keeps its meaning
  abbrev pub Law : Type 0
  Law = (w : World M) → New M w.floor → Kept w.config → (ks : List (Call M)) → Agree w ks × Stays w ks × Matches w ks
