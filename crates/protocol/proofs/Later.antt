-- What only grows from view to view.
use Rattle.std.proofs.Common.{◌≡◌, ℕ, ◌<◌, ◌≤◌, Bool, true, [], ◌∷◌, length, sym, refl, ◌∙◌, inl, inr, arith}
use Rattle.std.proofs.lemmas.Bool.Decides.{nat_tests}
use Rattle.std.proofs.lemmas.Option.{slice_get_within}
use Rattle.entries.specs.declared.Entry.{Entry}
use Rattle.protocol.proofs.View.{View, Configs, Epochs, Prefix, Nos, AllHeld, Kept, Fit, begin, order, accept, deliver, promised, open_epoch, join, store}
use Rattle.protocol.proofs.Inv.{Inv}
use Rattle.protocol.proofs.Lists.{append_keeps, take_tells, prefix_length}
use Rattle.protocol.proofs.BeginKeeps.{Idle, idle_shut}

module _ {U X : Type 0} (act : X → U → X) (x₀ : X) where
  -- configurations that are stored stay
  pub record LaterConfigs (c d : Configs) : Type 0 where
    pub last : c.last ≤ d.last
    pub member : (e f : ℕ) → 1 ≤ e → e ≤ c.last → d.member e f ≡ c.member e f
    pub leader : (e : ℕ) → 1 ≤ e → e ≤ c.last → d.leader e ≡ c.leader e

  -- epochs that were opened stay, and their lists grow
  pub record LaterEpochs (s t : Epochs U X) : Type 0 where
    pub opened : (e : ℕ) → s.opened e ≡ true → t.opened e ≡ true
    pub opening : (e : ℕ) → s.opened e ≡ true → t.opening e ≡ s.opening e
    pub grown : (e : ℕ) → s.opened e ≡ true → Prefix act x₀ (s.grown e) (t.grown e)
    pub found : (e k : ℕ) → s.opened e ≡ true → k < length (s.grown e) → t.found e k ≡ s.found e k

  pub record Later (v w : View U X) : Type 0 where
    pub configs : LaterConfigs v.configs w.configs
    pub open configs use *
    pub epochs : LaterEpochs v.epochs w.epochs
    pub open epochs use *
    pub epoch : (c : ℕ) → v.epoch c ≤ w.epoch c
    pub held : (e f : ℕ) → v.held e f ≤ w.held e f
    pub denied : (n t f : ℕ) → v.denied n t f ≡ true → w.denied n t f ≡ true
    pub handed : (c : ℕ) → Prefix act x₀ (v.handed c) (w.handed c)

  -- a view in which only what it does not speak of changed
  pub later_same : (v : View U X) → Later v v
  later_same v = record {
    configs = record {
      last = omega arith;
      member = λ e f a b. refl;
      leader = λ e a b. refl;
    };
    epochs = record {
      opened = λ e o. o;
      opening = λ e o. refl;
      grown = λ e o k x h. h;
      found = λ e k o h. refl;
    };
    epoch = λ c. omega arith;
    held = λ e f. omega arith;
    denied = λ n t f d. d;
    handed = λ c k x h. h;
  }

  pub later_chain : (u v w : View U X) → Later u v → Later v w → Later u w
  later_chain u v w a b = record {
    configs = record {
      last = let p = a.last in let q = b.last in omega arith;
      member = λ e f l m. let p = a.last in b.member e f l (omega arith) ∙ a.member e f l m;
      leader = λ e l m. let p = a.last in b.leader e l (omega arith) ∙ a.leader e l m;
    };
    epochs = record {
      opened = λ e o. b.opened e (a.opened e o);
      opening = λ e o. b.opening e (a.opened e o) ∙ a.opening e o;
      grown = λ e o k x h. b.grown e (a.opened e o) k x (a.grown e o k x h);
      found = λ e k o h. let l = prefix_length act x₀ (u.grown e) (v.grown e) (a.grown e o) in b.found e k (a.opened e o) (omega arith) ∙ a.found e k o h;
    };
    epoch = λ c. let p = a.epoch c in let q = b.epoch c in omega arith;
    held = λ e f. let p = a.held e f in let q = b.held e f in omega arith;
    denied = λ n t f d. b.denied n t f (a.denied n t f d);
    handed = λ c k x h. b.handed c k x (a.handed c k x h);
  }

  -- what was said stays true
  pub nos_later : (v w : View U X) → Later v w → (t n : ℕ) → Nos act x₀ v t n → Nos act x₀ w t n
  nos_later v w l t n s u a b = let d = s u a b in (d.0, l.denied n u d.0 d.1)

  pub fit_later : (v w : View U X) → Later v w → (n f : ℕ) → Fit act x₀ v n f → Fit act x₀ w n f
  fit_later v w l n f s = let e = l.epoch f in let s4 = s.4 in (s.0, s.1, s.2, nos_later v w l s.0 n s.3, omega arith)

  pub held_later : (v w : View U X) → Inv act x₀ v → Later v w → (e n : ℕ) → AllHeld act x₀ v e n → AllHeld act x₀ w e n
  held_later v w i l e n a =
      let o = a.opened in
      let r = i.opens e o in
      record {
        opened = l.opened e o;
        within = let p = prefix_length act x₀ (v.grown e) (w.grown e) (l.grown e o) in let q = a.within in omega arith;
        each = λ f m d.
            let p = a.each f (sym (l.member e f r.0 r.1) ∙ m) (λ q. d (q ∙ sym (l.leader e r.0 r.1))) in
            let q = l.held e f in omega arith;
      }

  pub kept_later : (v w : View U X) → Inv act x₀ v → Later v w → (c : ℕ) → w.handed c ≡ v.handed c → Kept act x₀ w c
  kept_later v w i l c same = elim (i.kept c) [
    | inl none ↦ inl (rw same none)
    | inr (e, come, a, pre) ↦ let far = l.epoch c in rw same (inr (e, omega arith, held_later v w i l e (length (v.handed c)) a, λ k x h. l.grown e a.opened k x (pre k x h)))
  ]

  pub begin_later : (v : View U X) (m : ℕ → Bool) (l : ℕ) → Idle act x₀ v → Later v (begin act x₀ v m l)
  unfolding begin
  begin_later v m l d =
      let z = d.last in
      let shut = idle_shut act x₀ v d in
      record {
        configs = record {
          last = omega arith;
          member = λ e f a b. absurd (omega arith);
          leader = λ e a b. absurd (omega arith);
        };
        epochs = record {
          opened = λ e o. absurd (shut e o);
          opening = λ e o. absurd (shut e o);
          grown = λ e o. absurd (shut e o);
          found = λ e k o. absurd (shut e o);
        };
        epoch = λ c. let q = d.epoch c in omega arith;
        held = λ e f. omega arith;
        denied = λ n t f d. d;
        handed = λ c k x h. h;
      }

  pub order_later : (v : View U X) (c : ℕ) (x : Entry U) → Later v (order act x₀ v c x)
  unfolding order
  order_later v c x =
      let s = later_same v in
      record {
        configs = s.configs;
        epochs = record {
          opened = s.opened;
          opening = s.opening;
          grown = λ e' o k y h. let a = append_keeps (v.grown e') (x ∷ []) y k h in grind (arith, nat_tests);
          found = λ e' k o h. grind (arith, nat_tests);
        };
        epoch = s.epoch;
        held = s.held;
        denied = s.denied;
        handed = s.handed;
      }

  pub accept_later : (v : View U X) (c : ℕ) (x : Entry U) → Inv act x₀ v → Later v (accept act x₀ v c x)
  unfolding accept
  accept_later v c x i =
      let s = later_same v in
      let w = i.said (v.epoch c) c in
      record {
        configs = s.configs;
        epochs = s.epochs;
        epoch = s.epoch;
        held = λ e f. grind (arith, nat_tests);
        denied = s.denied;
        handed = s.handed;
      }

  pub deliver_later : (v : View U X) (c n : ℕ) → Inv act x₀ v → length (v.handed c) ≤ n → Later v (deliver act x₀ v c n)
  unfolding deliver
  deliver_later v c n i le =
      let s = later_same v in
      record {
        configs = s.configs;
        epochs = s.epochs;
        epoch = s.epoch;
        held = s.held;
        denied = s.denied;
        handed = λ d k y h. let a = i.own d k y h in let b = slice_get_within (v.handed d) k y h in grind (arith, nat_tests, take_tells);
      }

  pub promised_later : (v : View U X) (c : ℕ) (b : Bool) (t n : ℕ) → Later v (promised act x₀ v c b t n)
  unfolding promised
  promised_later v c b t n =
      let s = later_same v in
      record {
        configs = s.configs;
        epochs = s.epochs;
        epoch = s.epoch;
        held = s.held;
        denied = λ m u f d. grind (arith, nat_tests);
        handed = s.handed;
      }

  pub open_later : (v : View U X) (c e : ℕ) → (v.opened e ≡ true → ⊥) → v.epoch c < e → Later v (open_epoch act x₀ v c e)
  unfolding open_epoch
  open_later v c e shut lt =
      let s = later_same v in
      record {
        configs = s.configs;
        epochs = record {
          opened = λ e' o. grind (arith, nat_tests);
          opening = λ e' o. grind (arith, nat_tests);
          grown = λ e' o k x h. grind (arith, nat_tests);
          found = s.found;
        };
        epoch = λ d. grind (arith, nat_tests);
        held = s.held;
        denied = s.denied;
        handed = s.handed;
      }

  pub join_later : (v : View U X) (c e : ℕ) → Inv act x₀ v → v.epoch c < e → Later v (join act x₀ v c e)
  unfolding join
  join_later v c e i lt =
      let s = later_same v in
      let none_said : v.held e c ≡ 0 = let w = i.said e c in grind arith in
      record {
        configs = s.configs;
        epochs = s.epochs;
        epoch = λ d. grind (arith, nat_tests);
        held = λ a f. grind (arith, nat_tests);
        denied = s.denied;
        handed = s.handed;
      }

  pub store_later : (v : View U X) (m : ℕ → Bool) (l : ℕ) → Later v (store act x₀ v m l)
  unfolding store
  store_later v m l =
      let s = later_same v in
      record {
        configs = record {
          last = omega arith;
          member = λ e f a b. grind (arith, nat_tests);
          leader = λ e a b. grind (arith, nat_tests);
        };
        epochs = s.epochs;
        epoch = s.epoch;
        held = s.held;
        denied = s.denied;
        handed = s.handed;
      }
