-- What an order that no question refuses makes of the floor.
use Rattle.std.proofs.Common.{◌≡◌, ℕ, true, false, ltb, get_or, None, Ok, refl}
use Rattle.service.specs.Meant.{Meant}
use Rattle.service.specs.declared.Worked.{Worked}
use Rattle.config.specs.Members.{without}
use Rattle.entries.specs.Lists.{holds}
use Rattle.machine.specs.declared.controller.Lead.{Lead}
use Rattle.machine.specs.declared.controller.Role.TheVariants.{Leader}
use Rattle.machine.specs.declared.fault.Fault.TheVariants.{ShortTables}
use Rattle.machine.specs.Machine.{Here, After, absent, space, stretch, grant, ask, unless, long_tables, at, entered, ordered}

-- where the order's own part stands past the questions of any call
asked : (M : Meant) (t : Here M) (d : After M) (c : ℕ) → long_tables M t ≡ true → absent t.started t.controllers c ≡ None → ask M t (long_tables M t) ShortTables (unless M t (absent t.started t.controllers c) d) ≡ d
asked M t d c long there = rw (long, there) refl

pub ordered_as : (M : Meant) (t : Here M) (c s : ℕ) (m : M.Command) (l : Lead) (w : Worked M.Update) → long_tables M t ≡ true → absent t.started t.controllers c ≡ None
    → (at M t c).role ≡ Leader l → holds (stretch t.entries c (at M t c).length) s ≡ false → ltb (at M t c).length 64 ≡ true
    → M.worked (M.mean (get_or t.speculative c M.opening)) m ≡ Ok w → space t.sent (without l.members c) ≡ true
    → ordered M t c s m ≡ grant M w.reply (entered M t c (at M t c) l (record { epoch = (at M t c).epoch; serial = s; update = w.update }) (M.next (get_or t.speculative c M.opening) w.update))
ordered_as M t c s m l w long there leads new room works fits = cc
