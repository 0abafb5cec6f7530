-- Roster: which controllers hold a serial. It reads the floor and changes nothing of it; it writes into bytes that the
-- caller lends. The order in which it writes the controllers is left free, and nothing else.
use Rattle.std.specs.Prelude.{◌≡◌, ℕ, zero, suc, ◌+◌, Bool, cond, ◌&&◌, List, [], ◌∷◌, ◌++◌, length, drop, Some, None, Ok, Err, Option, Result, ◌==◌, nat_le}
use Rattle.service.specs.Meant.{Meant}
use Rattle.entries.specs.Lists.{holds}
use Rattle.machine.specs.declared.fault.Fault.{Fault}
use Rattle.machine.specs.declared.fault.Fault.TheVariants.{ShortTables, NotStarted}
use Rattle.machine.specs.Machine.{Here, at, stretch}

-- how often a number stands in a list
abbrev pub times : ℕ → List ℕ → ℕ
times c [] = 0
times c (x ∷ xs) = cond (c == x) 1 0 + times c xs

module _ (M : Meant) where
  -- whether the list of controller c holds the serial; stopped controllers and entries not delivered count
  abbrev pub holder : Here M → ℕ → ℕ → Bool
  holder t s c = holds (stretch t.entries c (at M t c).length) s

  -- those among the first n controllers
  abbrev pub holders_below : Here M → ℕ → ℕ → List ℕ
  holders_below t s zero = []
  holders_below t s (suc n) = cond (holder t s n) (n ∷ holders_below t s n) (holders_below t s n)

  abbrev pub holders : Here M → ℕ → List ℕ
  holders t s = holders_below t s 8

  -- 1, 2: are the bytes 8 and the entries 512, has the floor been started?
  abbrev pub unrostered : Here M → ℕ → Option Fault
  unrostered t bytes = cond (nat_le 8 bytes && nat_le 512 (length t.entries)) (cond t.started None (Some NotStarted)) (Some ShortTables)

  -- granted: the holders stand first, each exactly once, and later bytes stay
  pub record Granted (t : Here M) (s : ℕ) (before : List ℕ) (answer : Result ℕ Fault) (after : List ℕ) : Type 0 where
    pub counted : answer ≡ Ok (length (holders t s))
    pub written : List ℕ
    pub sized : length written ≡ length (holders t s)
    pub once : (c : ℕ) → times c written ≡ times c (holders t s)
    pub bytes : after ≡ written ++ drop (length (holders t s)) before

  -- what a roster of the serial s answers, and the bytes before and after it
  abbrev pub Rostered : Here M → ℕ → List ℕ → Result ℕ Fault → List ℕ → Type 0
  Rostered t s before answer after = given (unrostered t (length before))
    where
      given : Option Fault → Type 0
      given None = Granted t s before answer after
      given (Some f) = (answer ≡ Err f) × (after ≡ before)
