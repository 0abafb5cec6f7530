-- What the rows of the floor's record say: controllers, roles, what a leader was told.
use Rattle.std.specs.Prelude.{ℕ, ◌+◌, min, Bool, true, false, cond, List, map, filter, fold, replicate, Some, None, Option, ◌==◌, nat_lt, slice_index_or, slice_set}
use Rattle.std.specs.List.{range_with_len}
use Rattle.config.specs.Members.{member, other}
use Rattle.machine.specs.declared.controller.Controller.{Controller}
use Rattle.machine.specs.declared.controller.Lead.{Lead}
use Rattle.machine.specs.declared.controller.Role.{Role}
use Rattle.machine.specs.declared.controller.Role.TheVariants.{Fresh, Follower, Leader}

-- a controller that has done nothing: what stands for one that is not there
abbrev pub no_controller : Controller
no_controller = record { running = false; role = Fresh; epoch = 0; promise = 0; length = 0; delivered = 0 }

-- a follower; a leader or a follower; the leader c, with f another member
abbrev pub follows : Role → Bool
follows Fresh = false
follows Follower = true
follows (Leader l) = false

abbrev pub takes_part : Role → Bool
takes_part Fresh = false
takes_part Follower = true
takes_part (Leader l) = true

abbrev pub leads_other : Role → ℕ → ℕ → Bool
leads_other Fresh c f = false
leads_other Follower c f = false
leads_other (Leader l) c f = other l.members c f

-- the length that f has told a leader, if it has
abbrev pub told_by : Role → ℕ → Option ℕ
told_by Fresh f = None
told_by Follower f = None
told_by (Leader l) f = cond (nat_lt f 8) (slice_index_or l.told f None) None

-- whether h is more than what was told, if anything was
abbrev pub more : Option ℕ → ℕ → Bool
more None h = true
more (Some t) h = nat_lt t h

-- the lesser of two lengths; none where one has not been told
abbrev pub lesser : Option ℕ → Option ℕ → Option ℕ
lesser None n = None
lesser (Some h) None = None
lesser (Some h) (Some n) = Some (min h n)

-- the lengths that the members other than c told
abbrev pub told_by_others : Lead → ℕ → List (Option ℕ)
told_by_others l c = map (λ f. slice_index_or l.told f None) (filter (other l.members c) (range_with_len 0 8))

-- how settle finds the least length, of a leader c's own and what the other members told; none where one has told nothing
unfoldable pub least : Lead → ℕ → ℕ → Option ℕ
least l c own = fold (λ n h. lesser h n) (Some own) (told_by_others l c)

-- how far a COMMIT of n reaches with d places delivered
abbrev pub reach : ℕ → ℕ → ℕ
reach n d = n

-- the controller with one entry more, and with r places delivered
abbrev pub longer : Controller → Controller
longer k = record k { length = k.length + 1 }

abbrev pub delivered_to : Controller → ℕ → Controller
delivered_to k r = record k { delivered = r }

-- the leader that has settled n places, and the leader that f has told the length h
abbrev pub with_role : Controller → Role → Controller
with_role k r = record k { role = r }

abbrev pub settled_at : Lead → ℕ → Role
settled_at l n = Leader (record l { settled = n })

abbrev pub told_to : Role → ℕ → ℕ → Role
told_to Fresh f h = Fresh
told_to Follower f h = Follower
told_to (Leader l) f h = Leader (record l { told = slice_set l.told f (Some h) })

-- what the first leader c of members m keeps: each other member has told 0
abbrev pub first_lead : ℕ → ℕ → Lead
first_lead m c = record { members = m; told = map (λ f. cond (other m c f) (Some 0) None) (range_with_len 0 8); settled = 0 }

-- a controller as the start leaves it: a member takes epoch and promise 1, its role and an empty list
abbrev pub first_role : ℕ → ℕ → ℕ → Role
first_role m l c = cond (c == l) (Leader (first_lead m l)) Follower

abbrev pub joined : ℕ → ℕ → ℕ → Controller → Controller
joined m l c k = cond (member m c) (record k { role = first_role m l c; epoch = 1; promise = 1; length = 0; delivered = 0 }) k

-- what the start makes of the controllers
unfoldable pub all_joined : ℕ → ℕ → List Controller → List Controller
all_joined m l ks = map (λ c. joined m l c (slice_index_or ks c no_controller)) (range_with_len 0 8)

-- a controller that promised, that leads epoch e with members m, and that follows in epoch e with n entries
abbrev pub promised : Controller → ℕ → Controller
promised k n = record k { promise = n }

abbrev pub new_lead : ℕ → Lead
new_lead m = record { members = m; told = replicate 8 None; settled = 0 }

abbrev pub leading : Controller → ℕ → ℕ → Controller
leading k e m = record k { role = Leader (new_lead m); epoch = e }

abbrev pub following : Controller → ℕ → ℕ → Controller
following k e n = record k { role = Follower; epoch = e; promise = e; length = n }

abbrev pub stopped : Controller → Controller
stopped k = record k { running = false }
