-- The commands that a program's sheets can write: a letter and a number.
use Rattle.std.specs.Prelude.{ℕ, Option}
use Rattle.sheet.specs.declared.verb.Verb.{Ghosts}

pub record Verbs (C : Type 0) : Type 1 where
  pub Kind : Type 0
  -- the verb that a letter stands for, if it is known
  pub known : ℕ → Option Kind
  -- the command that a verb makes of a number
  pub says : Kind → ℕ → C

-- the same, of what a bound `V: Verb` gives
abbrev pub verbs_by : {V C : Type 0} → Ghosts V C → Verbs C
verbs_by {V} {C} g = record { Kind = V; known = g.known; says = g.says }
