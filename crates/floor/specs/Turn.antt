-- A turn as the machine sees it.
use Rattle.std.specs.Prelude.{◌≡◌}
use Rattle.service.specs.declared.Service.{Ghosts}
use Rattle.machine.specs.Machine.{State}
use Rattle.machine.specs.declared.controller.Controller.{Controller}
use Rattle.floor.specs.Seen.{seen, controller_at}
use Rattle.floor.specs.declared.floor.turn.Turn.{Turn}

-- its floor and tables
abbrev pub seen_by : {S C U : Type 0} {G : Ghosts S C U} → Turn S C U G → State S U
seen_by t = seen t.floor.now t.tables.now

-- its controller
abbrev pub mine : {S C U : Type 0} {G : Ghosts S C U} → Turn S C U G → Controller
mine t = controller_at t.floor.now t.id

-- the same turn, at another time
abbrev pub Same : {S C U : Type 0} {G : Ghosts S C U} → Turn S C U G → Turn S C U G → Type 0
Same a b = (b.floor.ghost_name ≡ a.floor.ghost_name) × (b.tables.ghost_name ≡ a.tables.ghost_name) × (b.id ≡ a.id)
