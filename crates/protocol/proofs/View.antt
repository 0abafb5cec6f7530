-- The protocol view: what safety needs of a floor and no more, with its history. Controllers and epochs are numbers.
-- Its steps are looser than the machine's calls. Envelopes and seats are not part of it: what they say is stable.
use Rattle.std.proofs.Common.{◌≡◌, ℕ, ◌+◌, ◌<◌, ◌≤◌, Bool, true, cond, eqb, ◌⊎◌, List, [], ◌∷◌, ◌++◌, length, take, drop, Some}
use Rattle.std.specs.List.{slice_get, fold as std_fold}
use Rattle.entries.specs.declared.Entry.{Entry}

-- how many configurations are stored, and what they are
pub record Configs : Type 0 where
  pub last : ℕ
  pub member : ℕ → ℕ → Bool
  pub leader : ℕ → ℕ

-- whether an epoch was opened, with which list, the longest list that its leader had in it, and the epoch its leader came from
pub record Epochs (U X : Type 0) : Type 0 where
  pub opened : ℕ → Bool
  pub opening : ℕ → List (Entry U)
  pub grown : ℕ → List (Entry U)
  pub parent : ℕ → ℕ
  -- the meaning of the speculative state in which place k of an epoch was worked out
  pub found : ℕ → ℕ → X

pub record View (U X : Type 0) : Type 0 where
  pub configs : Configs
  pub open configs use *
  pub epochs : Epochs U X
  pub open epochs use *
  -- a controller's epoch, promise, list and states
  pub epoch : ℕ → ℕ
  pub promise : ℕ → ℕ
  pub list : ℕ → List (Entry U)
  pub committed : ℕ → X
  pub speculative : ℕ → X
  -- the entries that its COMMITs applied
  pub handed : ℕ → List (Entry U)
  -- the greatest length that a controller said in an epoch that it holds, 0 where it said none
  pub held : ℕ → ℕ → ℕ
  -- whether a controller denied epoch t to the new epoch n
  pub denied : ℕ → ℕ → ℕ → Bool

-- one value of a function exchanged
abbrev pub upd : {A : Type 0} → (ℕ → A) → ℕ → A → ℕ → A
upd f i x j = cond (eqb j i) x (f j)

abbrev pub upd2 : {A : Type 0} → (ℕ → ℕ → A) → ℕ → ℕ → A → ℕ → ℕ → A
upd2 f i j x k l = cond (eqb k i) (cond (eqb l j) x (f k l)) (f k l)

module _ {U X : Type 0} (ap : X → U → X) (x₀ : X) where
  -- what a list of entries makes of a meaning
  abbrev pub fold : X → List (Entry U) → X
  fold x es = std_fold (λ m e. ap m e.update) x es

  -- a is the beginning of b, place by place: a step is followed at single places, and `prefix_split` gives the rest of b
  abbrev pub Prefix : List (Entry U) → List (Entry U) → Type 0
  Prefix a b = (k : ℕ) (x : Entry U) → slice_get a k ≡ Some x → slice_get b k ≡ Some x

  -- every epoch between t and n was denied to n
  abbrev pub Nos : View U X → ℕ → ℕ → Type 0
  Nos v t n = (u : ℕ) → t < u → u < n → (f : ℕ) × (v.denied n u f ≡ true)

  -- n places of epoch e are held by every member
  pub record AllHeld (v : View U X) (e n : ℕ) : Type 0 where
    pub opened : v.opened e ≡ true
    pub within : n ≤ length (v.grown e)
    pub each : (f : ℕ) → v.member e f ≡ true → (f ≡ v.leader e → ⊥) → n ≤ v.held e f

  -- what c delivered is held by every member of an epoch that c has come to, or it is nothing
  abbrev pub Kept : View U X → ℕ → Type 0
  Kept v c = (length (v.handed c) ≡ 0) ⊎ ((e : ℕ) × (e ≤ v.epoch c) × AllHeld v e (length (v.handed c)) × Prefix (v.handed c) (v.grown e))

  -- f may lead the new epoch n: it had come as far as an epoch t, and all between were denied
  abbrev pub Fit : View U X → ℕ → ℕ → Type 0
  Fit v n f = (t : ℕ) × (1 ≤ t) × (t < n) × Nos v t n × (t ≤ v.epoch f)

  -- STEPS

  -- epoch 1 with the members m and the leader l
  unfoldable pub begin : View U X → (ℕ → Bool) → ℕ → View U X
  begin v m l = record v {
    configs = record v.configs {
      last = 1;
      member = upd v.member 1 m;
      leader = upd v.leader 1 l;
    };
    epochs = record v.epochs {
      opened = upd v.opened 1 true;
      opening = upd v.opening 1 [];
      grown = upd v.grown 1 [];
    };
    epoch = λ c. cond (m c) 1 (v.epoch c);
    promise = λ c. cond (m c) 1 (v.promise c);
    list = λ c. cond (m c) [] (v.list c);
    committed = λ c. x₀;
    speculative = λ c. x₀;
  }

  -- the leader c makes the entry x
  unfoldable pub order : View U X → ℕ → Entry U → View U X
  order v c x = record v {
    epochs = record v.epochs {
      grown = upd v.grown (v.epoch c) (v.grown (v.epoch c) ++ x ∷ []);
      found = upd2 v.found (v.epoch c) (length (v.grown (v.epoch c))) (v.speculative c);
    };
    list = upd v.list c (v.list c ++ x ∷ []);
    speculative = upd v.speculative c (ap (v.speculative c) x.update);
  }

  -- the follower c takes the next entry x of its epoch, and says that it holds it
  unfoldable pub accept : View U X → ℕ → Entry U → View U X
  accept v c x = record v {
    list = upd v.list c (v.list c ++ x ∷ []);
    held = upd2 v.held (v.epoch c) c (length (v.list c) + 1);
  }

  -- the controller c delivers up to n places
  unfoldable pub deliver : View U X → ℕ → ℕ → View U X
  deliver v c n = record v {
    committed = upd v.committed c (fold (v.committed c) (drop (length (v.handed c)) (take n (v.list c))));
    handed = upd v.handed c (take n (v.list c));
  }

  -- the controller c promises n; where b says so, it denies epoch t to it
  unfoldable pub promised : View U X → ℕ → Bool → ℕ → ℕ → View U X
  promised v c b t n = record v {
    promise = upd v.promise c n;
    denied = λ m u f. cond (eqb m n) (cond (eqb u t) (cond (eqb f c) (cond b true (v.denied m u f)) (v.denied m u f)) (v.denied m u f)) (v.denied m u f);
  }

  -- the controller c opens epoch e, which it leads
  unfoldable pub open_epoch : View U X → ℕ → ℕ → View U X
  open_epoch v c e = record v {
    epochs = record v.epochs {
      opened = upd v.opened e true;
      opening = upd v.opening e (v.list c);
      grown = upd v.grown e (v.list c);
      parent = upd v.parent e (v.epoch c);
    };
    epoch = upd v.epoch c e;
    speculative = upd v.speculative c (fold (v.committed c) (drop (length (v.handed c)) (v.list c)));
  }

  -- the controller c joins epoch e with the list it was opened with, and says that it holds it
  unfoldable pub join : View U X → ℕ → ℕ → View U X
  join v c e = record v {
    epoch = upd v.epoch c e;
    promise = upd v.promise c e;
    list = upd v.list c (v.opening e);
    held = upd2 v.held e c (length (v.opening e));
  }

  -- one configuration more
  unfoldable pub store : View U X → (ℕ → Bool) → ℕ → View U X
  store v m l = record v {
    configs = record v.configs {
      last = v.last + 1;
      member = upd v.member (v.last + 1) m;
      leader = upd v.leader (v.last + 1) l;
    };
  }
