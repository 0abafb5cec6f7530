-- A carousel means the list of its tools, station by station.
use Rattle.std.specs.Prelude.{ℕ, Bool, true, ◌&&◌, not, if◌then◌else◌, List, [], ◌∷◌, length, Some, None, Option, ◌==◌, nat_lt, slice_index, slice_set}
use Rattle.std.specs.List.{list_all, list_any, position_or_len}

-- whether a station holds the tool
abbrev pub holds : List ℕ → ℕ → Bool
holds xs t = list_any (λ x. x == t) xs

-- whether every station holds a tool, which is a number below 8
abbrev pub all_tools : List ℕ → Bool
all_tools xs = list_all (λ x. nat_lt x 8) xs

-- whether no tool stands in two stations
abbrev pub none_twice : List ℕ → Bool
none_twice [] = true
none_twice (x ∷ xs) = not (holds xs x) && none_twice xs

-- eight stations, all with tools and none twice: each of the eight tools stands exactly once
abbrev pub is_carousel : List ℕ → Bool
is_carousel xs = length xs == 8 && all_tools xs && none_twice xs

-- the first carousel: tool i in station i
abbrev pub straight : List ℕ
straight = 0 ∷ 1 ∷ 2 ∷ 3 ∷ 4 ∷ 5 ∷ 6 ∷ 7 ∷ []

-- the first station that holds the tool
abbrev pub station : List ℕ → ℕ → ℕ
station xs t = position_or_len (λ x. x == t) xs

-- the station of a tool; only the tools 0 to 7 have one
abbrev pub found : List ℕ → ℕ → Option ℕ
found xs t = if nat_lt t 8 then Some (station xs t) else None

-- the stations 0 and s exchanged; a station above 7 changes nothing
abbrev pub exchanged : List ℕ → ℕ → List ℕ
exchanged xs s = if nat_lt s 8 then slice_set (slice_set xs 0 (slice_index xs s)) s (slice_index xs 0) else xs
