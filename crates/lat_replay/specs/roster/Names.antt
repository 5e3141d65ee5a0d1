-- Where the rows stand, by the ids of their sessions.
use Rattle.std.specs.Prelude.{ℕ, List, Bool, ◌&&◌, Option, Some, None, nat_eq}
use Rattle.std.specs.Map.{lookup}
use Rattle.lat_replay.specs.declared.roster.names.RowKey.{RowKey}

pub record Names : Type 0 where
  pub entries : List (RowKey × ℕ)
  pub reserved : ℕ  -- for how many more

abbrev pub key_of : (circuit id : ℕ) → RowKey
key_of circuit id = record { circuit = circuit; id = id }

-- both ids are the same
abbrev pub same_key : RowKey → RowKey → Bool
same_key a b = nat_eq a.circuit b.circuit && nat_eq a.id b.id

abbrev pub place_in : Option ℕ → ℕ
place_in None = 0
place_in (Some place) = place

abbrev pub place_of : Names → RowKey → ℕ
place_of n key = place_in (lookup (same_key key) n.entries)
