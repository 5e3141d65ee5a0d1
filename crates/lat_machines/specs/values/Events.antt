-- What a core is told.
use Rattle.std.specs.Prelude.{ℕ, Bool, true, false, List, Option}
use Rattle.lat_machines.specs.values.Names.{Name}
use Rattle.lat_machines.specs.values.Frames.{Reading}

-- The unbounded numbers of a RUN
pub record Numbers : Type 0 where
  pub number : ℕ
  pub acknowledgement : ℕ

-- A frame is heard as what its payload reads as. Between the two ends its own numbers come with it; else the fields
-- of its head tell them
pub data Event : Type 0 where
  Hears : (from : ℕ) (payload : Reading) (numbers : Option Numbers) (now : ℕ) → Event
  Time : (now : ℕ) → Event
  Connects : (line : ℕ) (service : Name) → Event
  Puts : (line : ℕ) (bytes : List ℕ) → Event
  Sets : (line : ℕ) (setting : List ℕ) → Event
  Takes : (line n : ℕ) → Event
  Attends : (line flag : ℕ) → Event
  Closes : (line : ℕ) → Event
  Requests : (to id : ℕ) (service : Name) → Event
  Withdraws : (id : ℕ) → Event
  Announces : Event
  Avoids : (line : ℕ) → Event
  Readies : (line : ℕ) (ready : Bool) → Event
  Halts : Event

abbrev pub is_heard : Event → Bool
is_heard (Hears from payload numbers now) = true
is_heard _ = false
