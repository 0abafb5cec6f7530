-- What a configuration service means.
use Rattle.std.specs.Prelude.{◌≡◌, ℕ, ◌+◌, ◌-◌, ◌<◌, ◌≤◌, Bool, true, cond, if◌then◌else◌, ◌&&◌, List, [], ◌∷◌, ◌++◌, length, get_or, Ok, Err, Result, ◌==◌, nat_le, nat_lt, slice_index_or}
use Rattle.config.specs.declared.row.ConfigRow.{ConfigRow}
use Rattle.config.specs.declared.row.ConfigFault.{ConfigFault}
use Rattle.config.specs.declared.row.ConfigFault.TheVariants.{Closed, Stale, Full, NoEpoch}
use Rattle.config.specs.declared.configuration.Configuration.{Configuration}
use Rattle.config.specs.Members.{lawful}
use Rattle.config.specs.Made.{row_of}

-- the list of configurations (epoch e is the e-th), the limit that its length never passes, and whether it is open
pub record Configured : Type 0 where
  pub all : List ConfigRow
  pub limit : ℕ
  pub is_open : Bool

-- the refusals' numbers
abbrev pub number : ConfigFault → ℕ
number Closed = 1
number Stale = 2
number Full = 3
number NoEpoch = 4

-- a row that stands for none
abbrev pub no_row : ConfigRow
no_row = record { members = 0; leader = 0 }

-- the last epoch stored
abbrev pub last : Configured → Result ℕ ConfigFault
last s = cond s.is_open (Ok (length s.all)) (Err Closed)

-- the configuration of an epoch
abbrev pub configuration : Configured → ℕ → Result ConfigRow ConfigFault
configuration s e =
    cond s.is_open (cond (nat_le 1 e) (cond (nat_le e (length s.all)) (Ok (slice_index_or s.all (e - 1) no_row)) (Err NoEpoch)) (Err NoEpoch)) (Err Closed)

-- the epoch that a store with this expected last epoch makes after n, with limit l, or the refusal
abbrev pub epoch_after : ℕ → ℕ → ℕ → Result ℕ ConfigFault
epoch_after n e l = cond (e == n) (cond (nat_lt n l) (Ok (n + 1)) (Err Full)) (Err Stale)

-- whether a store with this expected last epoch is granted: the epoch that it makes, or the refusal
abbrev pub store_answer : Configured → ℕ → Result ℕ ConfigFault
store_answer s e = cond s.is_open (epoch_after (length s.all) e s.limit) (Err Closed)

-- the service after a store: one configuration more where it was granted, else as it was
abbrev pub stored_by : Configured → ConfigRow → Result ℕ ConfigFault → Configured
stored_by s k (Ok n) = record { all = s.all ++ k ∷ []; limit = s.limit; is_open = s.is_open }
stored_by s k (Err f) = s

abbrev pub stored : Configured → ℕ → ConfigRow → Configured
stored s e k = stored_by s k (store_answer s e)

-- an answered configuration, by its row
abbrev pub rowed : Result Configuration ConfigFault → Result ConfigRow ConfigFault
rowed (Ok k) = Ok (row_of k)
rowed (Err f) = Err f

-- the configuration of an epoch among all, where its row is lawful
abbrev pub lawful_at : List ConfigRow → ℕ → Result ConfigRow ConfigFault
lawful_at all e =
    if nat_le 1 e && nat_le e (length all) && lawful (slice_index_or all (e - 1) no_row).members (slice_index_or all (e - 1) no_row).leader
    then Ok (slice_index_or all (e - 1) no_row)
    else Err NoEpoch

-- what always holds of a configuration service: a limit of 1 to 32, which the list never passes, and lawful configurations
pub record Kept (s : Configured) : Type 0 where
  pub some : 1 ≤ s.limit
  pub most : s.limit ≤ 32
  pub fits : length s.all ≤ s.limit
  pub lawfully : (k : ℕ) → k < length s.all → lawful (get_or s.all k no_row).members (get_or s.all k no_row).leader ≡ true
