-- Where a call leads: a safe view of the floor after it, and what the call did.
use Rattle.std.proofs.Common.{◌≡◌, ℕ, ◌<◌, ◌≤◌, true, [], ◌∷◌, ◌++◌, length, Some, Ok, Err, Result, sym, refl}
use Rattle.std.specs.List.{slice_get}
use Rattle.std.proofs.lemmas.List.{append-nil}
use Rattle.service.specs.Meant.{Meant}
use Rattle.config.specs.Configured.{Configured}
use Rattle.entries.specs.declared.Entry.{Entry}
use Rattle.machine.specs.declared.envelope.Message.TheVariants.{NewConfig}
use Rattle.machine.specs.declared.fault.Fault.{Fault}
use Rattle.machine.specs.Machine.{Here, After, refuse}
use Rattle.machine.specs.Changes.{Act, order, settle, hand}
use Rattle.law.specs.Lives.{letter, delivers}
use Rattle.protocol.proofs.View.{AllHeld}
use Rattle.protocol.proofs.Later.{later_same}
use Rattle.law.proofs.Seen.{Sight, Safe, Grown, Seen, first}

module _ (M : Meant) where
  -- a floor after a call is seen as w
  pub record To (t : Here M) (s : Configured) (v : Sight M) (d : After M) (w : Sight M) : Type 0 where
    pub safe : Safe M w
    pub grown : Grown M v w
    pub seen : Seen M d.after s w

  -- a granted hand of NEWCONFIG opens its epoch with the list held
  pub record OpensWith (v w : Sight M) (c e : ℕ) : Type 0 where
    pub below : c < 8
    pub opened : w.opened e ≡ true
    pub opening : w.opening e ≡ v.list c
    pub list : w.list c ≡ v.list c

  abbrev pub Opened : Here M → Sight M → Sight M → Act M.Command → Result ℕ Fault → Type 0
  Opened t v w (hand i c) r = (n e m : ℕ) → r ≡ Ok n → letter M t i ≡ NewConfig e m → OpensWith v w c e
  Opened t v w _ r = Unit {0}

  -- a granted order makes an entry, which is found in the speculative state
  pub record Makes (v w : Sight M) (c : ℕ) : Type 0 where
    pub below : c < 8
    pub entry : Entry M.Update
    pub list : w.list c ≡ v.list c ++ entry ∷ []
    pub epoch : entry.epoch ≡ v.epoch c
    pub opened : w.opened (v.epoch c) ≡ true
    pub place : slice_get (w.grown (v.epoch c)) (length (v.list c)) ≡ Some entry
    pub found : w.found (v.epoch c) (length (v.list c)) ≡ v.speculative c
    pub after : length (w.opening (v.epoch c)) ≤ length (v.list c)
    pub leads : v.leader (v.epoch c) ≡ c
    pub some : 0 < v.epoch c

  abbrev pub Made : Sight M → Sight M → Act M.Command → Result ℕ Fault → Type 0
  Made v w (order c n x) r = (a : ℕ) → r ≡ Ok a → Makes v w c
  Made v w _ r = Unit {0}

  -- what a granted settle settles is held by every member
  pub record Settled (v : Sight M) (c n : ℕ) : Type 0 where
    pub below : c < 8
    pub held : AllHeld M.applied (first M) v (v.epoch c) n
    pub leads : v.leader (v.epoch c) ≡ c
    pub some : 0 < v.epoch c

  abbrev pub Secured : Sight M → Act M.Command → Result ℕ Fault → Type 0
  Secured v (settle c) r = (n : ℕ) → r ≡ Ok n → Settled v c n
  Secured v _ r = Unit {0}

  -- what a call did
  pub record Fact (t : Here M) (v w : Sight M) (a : Act M.Command) (r : Result ℕ Fault) : Type 0 where
    pub handed : (d : ℕ) → w.handed d ≡ v.handed d ++ delivers M t a r d
    pub opened : Opened t v w a r
    pub made : Made v w a r
    pub secured : Secured v a r

  pub record Goes (a : Act M.Command) (t : Here M) (s : Configured) (v : Sight M) (d : After M) : Type 0 where
    pub view : Sight M
    pub to : To t s v d view
    pub fact : Fact t v view a d.answer

  -- a refusal does nothing
  nothing_refused : (t : Here M) (a : Act M.Command) (g : Fault) (d : ℕ) → delivers M t a (Err g) d ≡ []
  nothing_refused t (hand i c) g d = refl
  nothing_refused t _ g d = refl

  opened_refused : (t : Here M) (v : Sight M) (a : Act M.Command) (g : Fault) → Opened t v v a (Err g)
  opened_refused t v (hand i c) g = λ n e m q l. absurd cc
  opened_refused t v _ g = tt

  made_refused : (v : Sight M) (a : Act M.Command) (g : Fault) → Made v v a (Err g)
  made_refused v (order c n x) g = λ a q. absurd cc
  made_refused v _ g = tt

  secured_refused : (v : Sight M) (a : Act M.Command) (g : Fault) → Secured v a (Err g)
  secured_refused v (settle c) g = λ n q. absurd cc
  secured_refused v _ g = tt

  pub fact_refused : (t : Here M) (v : Sight M) (a : Act M.Command) (g : Fault) → Fact t v v a (Err g)
  fact_refused t v a g = record {
    handed = λ d. rw (nothing_refused t a g d) (sym (append-nil (v.handed d)));
    opened = opened_refused t v a g;
    made = made_refused v a g;
    secured = secured_refused v a g;
  }

  pub to_same : (t : Here M) (s : Configured) (v : Sight M) (d : After M) → Safe M v → Seen M d.after s v → To t s v d v
  to_same t s v d i z = record { safe = i; grown = later_same M.applied (first M) v; seen = z }

  pub refused_goes : (a : Act M.Command) (t : Here M) (s : Configured) (v : Sight M) → Safe M v → Seen M t s v → (g : Fault) → Goes a t s v (refuse M t g)
  refused_goes a t s v i z g = record { view = v; to = to_same t s v (refuse M t g) i z; fact = fact_refused t v a g }
