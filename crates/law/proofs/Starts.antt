-- Start and propose, which store a configuration; and where every call leads.
use Rattle.std.proofs.Common.{◌≡◌, ℕ, ◌+◌, ◌-◌, ◌<◌, ◌≤◌, Bool, true, false, cond, eqb, ltb, leb, ◌⊎◌, List, [], ◌∷◌, ◌++◌, length, get_or, drop, replicate, Some, None, Ok, Err, Option, Result, sym, refl, ap, ◌∙◌, subst, inl, inr, arith}
use Rattle.std.proofs.lemmas.Bool.{cases_lt, cases_eq, cases_Bool, ltb-true, leb-true, and_parts, eq-eqb, ne_eqb}
use Rattle.std.proofs.lemmas.Bool.Decides.{nat_tests}
use Rattle.std.proofs.lemmas.List.{length-append, append-nil, get_or_append_left, get_or-append_right, get_or-replicate, get_or_past}
use Rattle.std.proofs.lemmas.List.FromFn.{get_or-map-range_with_len}
use Rattle.service.specs.Meant.{Meant}
use Rattle.config.specs.Members.{member, only, other}
use Rattle.config.specs.Made.{made}
use Rattle.config.specs.Configured.{Configured, Kept, no_row, store_answer}
use Rattle.config.specs.declared.row.ConfigRow.{ConfigRow}
use Rattle.config.specs.declared.row.ConfigFault.{ConfigFault}
use Rattle.machine.specs.declared.controller.Controller.{Controller}
use Rattle.machine.specs.declared.envelope.Envelope.{Envelope}
use Rattle.machine.specs.declared.envelope.Message.TheVariants.{NewConfig}
use Rattle.machine.specs.declared.fault.Fault.{Fault}
use Rattle.machine.specs.declared.fault.Fault.TheVariants.{ShortTables, NotStarted, OutOfRange, Unlawful, WrongState, BagFull, Started}
use Rattle.machine.specs.declared.seat.Seat.{Seat}
use Rattle.machine.specs.declared.seat.Seat.TheVariants.{Idle, Probing}
use Rattle.machine.specs.Faults.{of_config}
use Rattle.machine.specs.Rows.{no_controller, joined, first_role, first_lead, all_joined}
use Rattle.machine.specs.Machine.{Here, After, Both, at, opening_of, all_first, long_tables, refuse, put_seat, post, with_config, opened, started_with, starting, started_by}
use Rattle.machine.specs.Changes.{Act, start, propose, seat_at, proposed_with, proposing, proposal, propose_of}
use Rattle.protocol.proofs.View.{begin as begun, store, Fit}
use Rattle.protocol.proofs.BeginKeeps.{Idle as Nothing, begin_keeps}
use Rattle.protocol.proofs.StoreKeeps.{store_keeps}
use Rattle.protocol.proofs.Later.{begin_later, store_later, later_same}
use Rattle.law.specs.Lives.{New, fresh}
use Rattle.law.proofs.Seen.{Sight, Safe, Grown, Says, Sits, Plays, Stands, Seen, first}
use Rattle.law.proofs.Goals.{Fact, Goes, fact_refused}
use Rattle.law.proofs.Frames.{stands_later, bag_later, seats_later}
use Rattle.law.proofs.Moves.{seen_seat, seen_post}
use Rattle.law.proofs.Quiet.{added, empty_set, member_lt}

-- a set with one controller has that one alone
pub only_one : (l c : ℕ) → l < 8 → member (only l) c ≡ true → c ≡ l
only_one l c b h =
    let none : member 0 l ≡ false = elim (cases_Bool (member 0 l)) [ inl q ↦ absurd (empty_set l q) | inr q ↦ q ] in
    elim (added 0 l c b none (subst (λ (m : ℕ). member m c ≡ true) (omega arith) h)) [ inl q ↦ q | inr q ↦ absurd (empty_set c q) ]

-- what makes a configuration is lawful
pub made_lawful : (m l : ℕ) (k : ConfigRow) → made m l ≡ Some k → member k.members k.leader ≡ true
made_lawful m l k h = grind (arith, nat_tests)

-- what a granted store says of the service
pub store_granted : (s : Configured) (e n : ℕ) → store_answer s e ≡ Ok n → (e ≡ length s.all) × (length s.all < s.limit)
store_granted s e n h = (grind (arith, nat_tests), grind (arith, nat_tests))

first_states : {X : Type 0} (x d : X) (xs : List X) (c : ℕ) → c < 8 → get_or (all_first x xs) c d ≡ x
unfolding all_first
first_states x d xs c h = get_or_append_left (replicate 8 x) (drop 8 xs) d c h ∙ get_or-replicate 8 c x d h

first_states_length : {X : Type 0} (x : X) (xs : List X) → 8 ≤ length (all_first x xs)
unfolding all_first
first_states_length x xs = simp length-append (omega arith)

-- the first leader was told nothing but 0
first_told : (m l f h : ℕ) → get_or (first_lead m l).told f None ≡ Some h → h ≡ 0
first_told m l f h q =
    elim (cases_lt f 8) [
      | inl b ↦ let e = get_or-map-range_with_len (λ (g : ℕ). cond {A = Option ℕ} (other m l g) (Some 0) None) 0 8 f f None b (omega arith) in grind (arith, nat_tests)
      | inr b ↦ absurd (cc (get_or_past (first_lead m l).told f None b))
    ]

module _ (M : Meant) where
  -- the view of a floor on which nothing has happened
  abbrev pub nothing : Sight M
  nothing = record {
    configs = record { last = 0; member = λ e f. false; leader = λ e. 0 };
    epochs = record { opened = λ e. false; opening = λ e. []; grown = λ e. []; parent = λ e. 0; found = λ e k. first M };
    epoch = λ c. 0;
    promise = λ c. 0;
    list = λ c. [];
    committed = λ c. first M;
    speculative = λ c. first M;
    handed = λ c. [];
    held = λ e f. 0;
    denied = λ n t f. false;
  }

  pub nothing_idle : Nothing M.applied (first M) nothing
  nothing_idle = record {
    last = refl;
    opened = λ e. refl;
    opening = λ e. refl;
    epoch = λ c. refl;
    list = λ c. refl;
    handed = λ c. refl;
    held = λ e f. refl;
    denied = λ n t f. refl;
  }

  -- a floor that is new, or one that is seen
  abbrev pub Known : Here M → Configured → Sight M → Type 0
  Known t s v = (New M t × Kept s × (v ≡ nothing)) ⊎ (Safe M v × Seen M t s v)

  pub record Leads (a : Act M.Command) (t : Here M) (v : Sight M) (b : Both M) : Type 0 where
    pub view : Sight M
    pub known : Known b.after b.config view
    pub grown : Grown M v view
    pub fact : Fact M t v view a b.answer

  pub refusal_leads : (a : Act M.Command) (t : Here M) (s : Configured) (v : Sight M) → Known t s v → (g : Fault) → Leads a t v (with_config M (refuse M t g) s)
  refusal_leads a t s v k g = record { view = v; known = k; grown = later_same M.applied (first M) v; fact = fact_refused M t v a g }

  -- a question of start or propose is answered no, or yes
  pub asks_leads : (a : Act M.Command) (t : Here M) (s : Configured) (v : Sight M) → Known t s v → (b : Bool) (d : Both M) (f : Fault) → (b ≡ true → Leads a t v d)
      → Leads a t v (cond b d (with_config M (refuse M t f) s))
  asks_leads a t s v k true d f go = go refl
  asks_leads a t s v k false d f go = refusal_leads a t s v k f

  pub goes_leads : (a : Act M.Command) (t : Here M) (s : Configured) (v : Sight M) (d : After M) → Goes M a t s v d → Leads a t v (with_config M d s)
  goes_leads a t s v d g = record { view = g.view; known = inr (g.to.safe, g.to.seen); grown = g.to.grown; fact = g.fact }

  -- one configuration more
  seen_stored : (t : Here M) (s : Configured) (v : Sight M) (k : ConfigRow) → Safe M v → Seen M t s v → length s.all < s.limit
      → Seen M t (record { all = s.all ++ k ∷ []; limit = s.limit; is_open = s.is_open }) (store M.applied (first M) v (member k.members) k.leader)
  unfolding store
  seen_stored t s v k i z room =
      let w = store M.applied (first M) v (member k.members) k.leader in
      let g : Grown M v w = store_later M.applied (first M) v (member k.members) k.leader in
      let n = z.last in
      let lim = z.limit in
      let gap : length s.all - length s.all ≡ 0 = omega arith in
      let at_end : get_or (s.all ++ k ∷ []) (length s.all) no_row ≡ k =
      get_or-append_right s.all (k ∷ []) (length s.all) (length s.all) no_row refl (omega arith) ∙ ap (λ (j : ℕ). get_or (k ∷ []) j no_row) gap in
      let row : (e : ℕ) → e ≡ v.last + 1 → get_or (s.all ++ k ∷ []) (e - 1) no_row ≡ k = λ e q. ap (λ (j : ℕ). get_or (s.all ++ k ∷ []) j no_row) (omega arith) ∙ at_end in
      let old_row : (e : ℕ) → 1 ≤ e → e ≤ v.last → get_or (s.all ++ k ∷ []) (e - 1) no_row ≡ get_or s.all (e - 1) no_row = λ e a b. get_or_append_left s.all (k ∷ []) no_row (e - 1) (omega arith) in
      record {
        roomy = z.roomy;
        few = z.few;
        stands = λ c b. stands_later M t t v w c (at M t c) i g refl (z.stands c b);
        stored = record {
          last = simp length-append (omega arith);
          some = omega arith;
          limit = z.limit;
          most = omega arith;
          members = λ e f a b. let new = row e in let old = old_row e a in let q = z.members e f a in grind (arith, nat_tests);
          leader = λ e a b. let new = row e in let old = old_row e a in let q = z.leader e a in grind (arith, nat_tests);
        };
        opened = z.opened;
        short = z.short;
        bag = bag_later M t s v w i g z;
        seats = seats_later M t s v w g z;
      }

  -- what NEWCONFIG says when it is sent
  newconfig_says : (v : Sight M) (k : ConfigRow) → 1 ≤ v.last → k.leader < 8 → Says M (store M.applied (first M) v (member k.members) k.leader) (only k.leader) (NewConfig (v.last + 1) k.members)
  unfolding store
  newconfig_says v k one b =
      let te = eq-eqb (v.last + 1) (v.last + 1) refl in
      (omega arith, omega arith, λ f. simp te, λ c h. simp te (sym (only_one k.leader c b h)))

  pub propose_leads : (t : Here M) (s : Configured) (v : Sight M) (j m l : ℕ) → Safe M v → Seen M t s v → Leads (propose j m l) t v (propose_of M t s j m l)
  unfolding store
  propose_leads t s v j m l i z =
      asks_leads (propose j m l) t s v (inr (i, z)) (long_tables M t) (cond t.started (cond (ltb j 4) (proposal M t s j (made m l)) (with_config M (refuse M t OutOfRange) s)) (with_config M (refuse M t NotStarted) s)) ShortTables λ _.
      asks_leads (propose j m l) t s v (inr (i, z)) t.started (cond (ltb j 4) (proposal M t s j (made m l)) (with_config M (refuse M t OutOfRange) s)) NotStarted λ _.
      asks_leads (propose j m l) t s v (inr (i, z)) (ltb j 4) (proposal M t s j (made m l)) OutOfRange λ b. row (ltb-true j 4 b) (made m l) refl
    where
      no : (g : Fault) → Leads (propose j m l) t v (with_config M (refuse M t g) s)
      no g = refusal_leads (propose j m l) t s v (inr (i, z)) g

      answers : j < 4 → t.sent < 1024 → (n : ℕ) (k : ConfigRow) → 1 ≤ n → 1 ≤ v.last → member k.members k.leader ≡ true → Fit M.applied (first M) v n k.leader
          → (r : Result ℕ ConfigFault) → store_answer s (n - 1) ≡ r → Leads (propose j m l) t v (proposed_with M t s j n k r)
      answers jb room n k one some law fit (Err f) q =
          subst (λ (c : Configured). Leads (propose j m l) t v (with_config M (refuse M t (of_config f)) c)) (sym (rw q refl)) (no (of_config f))
      answers jb room n k one some law fit (Ok e) q =
          let g = store_granted s (n - 1) e q in
          let len = z.last in
          let g0 = g.0 in
          let new : n ≡ v.last + 1 = omega arith in
          let w = store M.applied (first M) v (member k.members) k.leader in
          let safe = store_keeps M.applied (first M) v (member k.members) k.leader i some law (subst (λ (y : ℕ). Fit M.applied (first M) v y k.leader) new fit) in
          let s' : Configured = record { all = s.all ++ k ∷ []; limit = s.limit; is_open = s.is_open } in
          let env : Envelope M.Update = record { sender = j; to = only k.leader; message = NewConfig n k.members } in
          let zs = seen_stored t s v k i z g.1 in
          let zseat = seen_seat M t s' w j Idle safe zs jb tt in
          let said : Says M w (only k.leader) (NewConfig n k.members) = subst (λ (y : ℕ). Says M w (only k.leader) (NewConfig y k.members)) (sym new) (newconfig_says v k some (member_lt k.members k.leader law)) in
          let zpost = seen_post M (put_seat M t j Idle) s' w env safe zseat room said in
          record {
            view = w;
            known = inr (safe, subst (λ (c : Configured). Seen M (post M (put_seat M t j Idle) env) c w) (sym (rw q refl)) zpost);
            grown = store_later M.applied (first M) v (member k.members) k.leader;
            fact = record { handed = λ d. sym (append-nil (v.handed d)); opened = tt; made = tt; secured = tt };
          }

      seat : j < 4 → (k : ConfigRow) → member k.members k.leader ≡ true → (x : Seat) → Sits M v x → Leads (propose j m l) t v (proposing M t s j k x)
      seat jb k law Idle sits = no WrongState
      seat jb k law (Probing n g ys nay) sits =
          asks_leads (propose j m l) t s v (inr (i, z)) (member ys k.leader) (cond (ltb t.sent 1024) (proposed_with M t s j n k (store_answer s (n - 1))) (with_config M (refuse M t BagFull) s)) WrongState λ heard.
          asks_leads (propose j m l) t s v (inr (i, z)) (ltb t.sent 1024) (proposed_with M t s j n k (store_answer s (n - 1))) BagFull λ room.
          let a = sits.some in let b = sits.below in let c = sits.stored in
          answers jb (ltb-true t.sent 1024 room) n k (omega arith) (omega arith) law (sits.yes_heard k.leader heard) (store_answer s (n - 1)) refl

      row : j < 4 → (o : Option ConfigRow) → made m l ≡ o → Leads (propose j m l) t v (proposal M t s j o)
      row jb None q = no Unlawful
      row jb (Some k) q = seat jb k (made_lawful m l k q) (seat_at M t j) (z.seats j jb)

  -- a member of the first configuration, and a controller that is not
  first_role_plays : (k : ConfigRow) (c : ℕ) → member k.members c ≡ true
      → Plays M (begun M.applied (first M) nothing (member k.members) k.leader) c (first_role k.members k.leader c)
  unfolding begun
  first_role_plays k c mem =
      elim (cases_eq c k.leader) [
        | inl q ↦
            let t = eq-eqb c k.leader q in
            simp t (record { some = simp mem (omega arith); leads = simp mem (sym q); members = λ f. simp mem; told = λ f h g. let z = first_told k.members k.leader f h g in omega arith })
        | inr d ↦ let t = ne_eqb c k.leader d in simp t (simp mem (omega arith), λ q. d (sym (simp mem at q)))
      ]

  first_stands : (t : Here M) (k : ConfigRow) (c : ℕ) → New M t → c < 8
      → Stands M (opened M t k) (begun M.applied (first M) nothing (member k.members) k.leader) c (joined k.members k.leader c fresh)
  unfolding begun
  first_stands t k c n b =
      let com_first = ap M.mean (first_states M.opening M.opening t.committed c b) in
      let spec_first = ap M.mean (first_states M.opening M.opening t.speculative c b) in
      elim (cases_Bool (member k.members c)) [
        | inl mem ↦ simp mem (record {
          epoch = simp mem;
          promise = simp mem;
          room = omega arith;
          list = simp mem;
          delivered = refl;
          committed = com_first;
          speculative = λ q p. spec_first;
          role = first_role_plays k c mem;
        })
        | inr mem ↦ simp mem (record {
          epoch = simp mem;
          promise = simp mem;
          room = omega arith;
          list = simp mem;
          delivered = refl;
          committed = com_first;
          speculative = λ q p. spec_first;
          role = simp mem;
        })
      ]

  -- the floor after a granted start
  first_seen : (t : Here M) (s : Configured) (k : ConfigRow) → New M t → Kept s → long_tables M t ≡ true → length s.all ≡ 0 → 0 < s.limit
      → Seen M (opened M t k) (record { all = s.all ++ k ∷ []; limit = s.limit; is_open = s.is_open }) (begun M.applied (first M) nothing (member k.members) k.leader)
  unfolding begun all_joined
  first_seen t s k n kept sizes none some =
      let a = and_parts (leb 512 (length t.entries)) _ sizes in
      let a2 = and_parts (leb 2048 (length t.openings)) _ a.1 in
      let a3 = and_parts (leb 8 (length t.committed)) _ a2.1 in
      let a4 = and_parts (leb 8 (length t.speculative)) (leb 1024 (length t.envelopes)) a3.1 in
      let only_first : (e : ℕ) → cond (eqb e 1) true false ≡ true → e ≡ 1 = λ e o. grind (arith, nat_tests) in
      let at_end : (e : ℕ) → e ≡ 1 → get_or (s.all ++ k ∷ []) (e - 1) no_row ≡ k = λ e q.
      get_or-append_right s.all (k ∷ []) 0 (e - 1) no_row none (omega arith) ∙ ap (λ (j : ℕ). get_or (k ∷ []) j no_row) (let g : e - 1 - 0 ≡ 0 = omega arith in g) in
      let lens : (e : ℕ) → e ≡ 1 → get_or t.lengths (e - 1) 0 ≡ 0 = λ e q.
      ap (λ (ls : List ℕ). get_or ls (e - 1) 0) n.lengths ∙ get_or-replicate 32 (e - 1) 0 0 (omega arith) in
      let empty = n.sent in
      let lim = kept.most in
      record {
        roomy = record {
          started = refl;
          eight = refl;
          four = ap length n.seats;
          epochs = ap length n.lengths;
          entries = leb-true 512 (length t.entries) a.0;
          openings = leb-true 2048 (length t.openings) a2.0;
          committed = first_states_length M.opening t.committed;
          speculative = first_states_length M.opening t.speculative;
          envelopes = leb-true 1024 (length t.envelopes) a4.1;
        };
        few = omega arith;
        stands = λ c b.
            let q : at M (opened M t k) c ≡ joined k.members k.leader c fresh =
            get_or-map-range_with_len (λ d. joined k.members k.leader d (get_or t.controllers d no_controller)) 0 8 c c no_controller b (omega arith)
            ∙ ap (λ (x : Controller). joined k.members k.leader c x) (ap (λ (ks : List Controller). get_or ks c no_controller) n.controllers ∙ get_or-replicate 8 c fresh no_controller b) in
            subst (λ (x : Controller). Stands M (opened M t k) (begun M.applied (first M) nothing (member k.members) k.leader) c x) (sym q) (first_stands t k c n b);
        stored = record {
          last = simp length-append (omega arith);
          some = omega arith;
          limit = kept.most;
          most = omega arith;
          members = λ e f p b. let q : e ≡ 1 = omega arith in let te = eq-eqb e 1 q in simp te (ap (λ (r : ConfigRow). member r.members f) (at_end e q));
          leader = λ e p b. let q : e ≡ 1 = omega arith in let te = eq-eqb e 1 q in simp te (ap (λ (r : ConfigRow). r.leader) (at_end e q));
        };
        opened = λ e o. let q = only_first e o in let te = eq-eqb e 1 q in simp te (ap (λ (j : ℕ). opening_of t.openings e j) (lens e q));
        short = λ e o. let q = lens e (only_first e o) in omega arith;
        bag = λ j h. absurd (omega arith);
        seats = λ j h. let q : get_or t.seats j Idle ≡ Idle = ap (λ (xs : List Seat). get_or xs j Idle) n.seats ∙ get_or-replicate 4 j Idle Idle h in subst (λ (x : Seat). Sits M (begun M.applied (first M) nothing (member k.members) k.leader) x) (sym q) tt;
      }

  -- start on a new floor
  pub start_leads : (t : Here M) (s : Configured) (m l : ℕ) → New M t → Kept s → Leads (start m l) t nothing (started_by M t s m l)
  unfolding begun
  start_leads t s m l n kept =
      asks_leads (start m l) t s nothing (inl (n, kept, refl)) (long_tables M t) (cond t.started (with_config M (refuse M t Started) s) (starting M t s (made m l))) ShortTables λ sizes.
      subst (λ (b : Bool). Leads (start m l) t nothing (cond b (with_config M (refuse M t Started) s) (starting M t s (made m l)))) (sym n.started) (row sizes (made m l) refl)
    where
      no : (g : Fault) → Leads (start m l) t nothing (with_config M (refuse M t g) s)
      no g = refusal_leads (start m l) t s nothing (inl (n, kept, refl)) g

      answers : long_tables M t ≡ true → (k : ConfigRow) → member k.members k.leader ≡ true → (r : Result ℕ ConfigFault) → store_answer s 0 ≡ r → Leads (start m l) t nothing (started_with M t s k r)
      answers sizes k law (Err f) q = subst (λ (c : Configured). Leads (start m l) t nothing (with_config M (refuse M t (of_config f)) c)) (sym (rw q refl)) (no (of_config f))
      answers sizes k law (Ok e) q =
          let g = store_granted s 0 e q in
          let g1 = g.1 in
          let s' : Configured = record { all = s.all ++ k ∷ []; limit = s.limit; is_open = s.is_open } in
          let w = begun M.applied (first M) nothing (member k.members) k.leader in
          record {
            view = w;
            known = inr (begin_keeps M.applied (first M) nothing (member k.members) k.leader nothing_idle law, subst (λ (c : Configured). Seen M (opened M t k) c w) (sym (rw q refl)) (first_seen t s k n kept sizes (sym g.0) (omega arith)));
            grown = begin_later M.applied (first M) nothing (member k.members) k.leader nothing_idle;
            fact = record { handed = λ d. refl; opened = tt; made = tt; secured = tt };
          }

      row : long_tables M t ≡ true → (o : Option ConfigRow) → made m l ≡ o → Leads (start m l) t nothing (starting M t s o)
      row sizes None q = no Unlawful
      row sizes (Some k) q = answers sizes k (made_lawful m l k q) (store_answer s 0) refl

  -- start on a floor that is started
  pub start_again : (t : Here M) (s : Configured) (v : Sight M) (m l : ℕ) → Safe M v → Seen M t s v → Leads (start m l) t v (started_by M t s m l)
  start_again t s v m l i z =
      let known = inr (i, z) in
      asks_leads (start m l) t s v known (long_tables M t) (cond t.started (with_config M (refuse M t Started) s) (starting M t s (made m l))) ShortTables λ _.
      subst (λ (b : Bool). Leads (start m l) t v (cond b (with_config M (refuse M t Started) s) (starting M t s (made m l)))) (sym z.started) (refusal_leads (start m l) t s v known Started)
