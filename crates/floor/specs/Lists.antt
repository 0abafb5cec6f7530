-- What changes a list of the floor, and what a list makes of a state, of a controller c which is k.
use Rattle.std.specs.Prelude.{ℕ, ◌+◌, ◌-◌, ◌*◌, slice_index_or}
use Rattle.service.specs.Meant.{Meant}
use Rattle.entries.specs.declared.Entry.{Entry}
use Rattle.machine.specs.declared.controller.Controller.{Controller}
use Rattle.machine.specs.Machine.{Here, run, stretch, part, opening_of, put_controller, put_entry, put_list, put_opening}
use Rattle.machine.specs.Rows.{longer, following}

module _ (M : Meant) where
  -- an entry more at the end of its list
  abbrev pub appended : Here M → ℕ → Controller → Entry M.Update → Here M
  appended t c k x = put_entry M (put_controller M t c (longer k)) (c * 64 + k.length) x

  -- its committed state, with the entries up to the place n that are not delivered
  abbrev pub state_at : Here M → ℕ → Controller → ℕ → M.Row
  state_at t c k n = run M (slice_index_or t.committed c M.opening) (part t.entries c k.delivered (n - k.delivered))

  -- its list kept as the opening list of epoch e
  abbrev pub opening_kept : Here M → ℕ → Controller → ℕ → Here M
  opening_kept t c k e = put_opening M t e (stretch t.entries c k.length)

  -- its list taken from the opening list of epoch e, of n entries, as it follows there
  abbrev pub opening_taken : Here M → ℕ → Controller → ℕ → ℕ → Here M
  opening_taken t c k e n = put_list M (put_controller M t c (following k e n)) c (opening_of t.openings e n)
