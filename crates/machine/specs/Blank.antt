-- Tables of the lengths that a call asks for, in which nothing is written yet.
use Rattle.std.specs.Prelude.{◌≡◌, ℕ, List, map, vec_items}
use Rattle.std.specs.List.{range_with_len}
use Rattle.service.specs.Meant.{Meant}
use Rattle.entries.specs.declared.Entry.{Entry}
use Rattle.machine.specs.declared.tables.Tables.{Tables}
use Rattle.machine.specs.Machine.{no_envelope}

-- an entry with this update that nobody made
abbrev pub no_entry : {U : Type 0} → U → Entry U
no_entry u = record { epoch = 0; serial = 0; update = u }

-- n rows that are alike
unfoldable pub blank : {X : Type 0} → ℕ → X → List X
blank n x = map (λ _. x) (range_with_len 0 n)

pub record Blank (M : Meant) {C : Type 0} (u : M.Update) (t : Tables M.Row C M.Update) : Type 0 where
  pub entries : vec_items t.entries ≡ blank 512 (no_entry u)
  pub openings : vec_items t.openings ≡ blank 2048 (no_entry u)
  pub committed : vec_items t.committed ≡ blank 8 M.opening
  pub speculative : vec_items t.speculative ≡ blank 8 M.opening
  pub envelopes : vec_items t.envelopes ≡ blank 1024 no_envelope
