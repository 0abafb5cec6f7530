-- Tables of configurations that are all lawful.
use Rattle.std.specs.Prelude.{◌≡◌, ℕ, ◌+◌, ◌<◌, ◌≤◌, Bool, true, List, length, take, slice_set}
use Rattle.std.proofs.Common.{arith, inl, inr}
use Rattle.std.proofs.lemmas.Bool.{cases_eq}
use Rattle.std.proofs.lemmas.List.{length-take, get_or-take, get_or-set_same, get_or-set_other}
use Rattle.config.specs.declared.row.ConfigRow.{ConfigRow}
use Rattle.config.specs.Members.{lawful}
use Rattle.config.specs.Configured.{Kept, no_row}
use Rattle.config.specs.Rows.{Lawful}

-- what a service keeps whose list is a table of lawful ones
pub kept_all : (rows : List ConfigRow) (o : Bool) → length rows ≤ 32 → Lawful rows (length rows) → Kept (record { all = rows; limit = 32; is_open = o })
kept_all rows o h l = record { some = omega arith; most = omega arith; fits = h; lawfully = l }

-- the same where it is the first n rows of a table of lawful ones
pub kept_firsts : (rows : List ConfigRow) (n : ℕ) (o : Bool) → n ≤ 32 → Lawful rows n → Kept (record { all = take n rows; limit = 32; is_open = o })
kept_firsts rows n o h l =
    let m = length-take n rows in
    record {
      some = omega arith;
      most = omega arith;
      fits = omega arith;
      lawfully = λ k b. let lt : k < n = omega arith in rw get_or-take (l k lt);
    }

-- one lawful row more
pub lawful_more : (rows : List ConfigRow) (n : ℕ) (x : ConfigRow) → n < length rows → Lawful rows n → lawful x.members x.leader ≡ true → Lawful (slice_set rows n x) (n + 1)
lawful_more rows n x b l h k lt =
    elim (cases_eq k n) [
      | inl e ↦ rw e (rw (get_or-set_same rows n x no_row b) h)
      | inr d ↦ rw (get_or-set_other rows n k x no_row d) (l k (omega arith))
    ]
