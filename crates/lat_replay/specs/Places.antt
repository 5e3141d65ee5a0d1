-- Places for the grants, by their numbers.
use Rattle.std.specs.Prelude.{◌≡◌, ℕ, suc, ◌<◌, ◌⊎◌, List, Option, Some, slice_get}
use Rattle.lat_machines.specs.server.Queue.{QueueEvent, Request, records}
use Rattle.lat_machines.specs.server.Records.{grants_of, grant_of}
use Rattle.lat_queue.specs.Histories.{key_shown}
use Rattle.lat_queue.specs.declared.key.Key.{Key}

abbrev pub Holds : List (Option Key) → ℕ → Key → Type 0
Holds places i k = slice_get places i ≡ Some (Some k)

-- the same keys in the same places
pub record SameKeys (old new : List (Option Key)) : Type 0 where
  pub back : (i : ℕ) (k : Key) → Holds new i k → Holds old i k
  pub stay : (i : ℕ) (k : Key) → Holds old i k → Holds new i k

-- a key was put into a place, and no other place was emptied or filled
pub record IsPut (i : ℕ) (key : Key) (old new : List (Option Key)) : Type 0 where
  pub here : Holds new i key
  pub back : (j : ℕ) (k : Key) → Holds new j k → ((j ≡ i) × (k ≡ key)) ⊎ Holds old j k
  pub stay : (j : ℕ) (k : Key) → Holds old j k → (other : Key) × Holds new j other

-- What is held is the grant of the place, and the grants of the first n records have their places
pub record Places (q : List QueueEvent) (n : ℕ) (places : List (Option Key)) : Type 0 where
  pub grants : (i : ℕ) (k : Key) → Holds places i k → slice_get (grants_of q) i ≡ Some (key_shown k)
  pub placed : (j i : ℕ) (r : Request) → j < n → slice_get (records q) j ≡ Some r → grant_of r.key q ≡ Some (suc i) → (k : Key) × Holds places i k
