-- Which worlds a wire and a roster stand for, and which sessions are told of a line.
use Rattle.std.specs.Prelude.{◌≡◌, ◌≢◌, ℕ, ◌-◌, Some, slice_get}
use Rattle.lat_machines.specs.cores.Cores.{Core}
use Rattle.lat_machines.specs.world.Machines.{Machines}
use Rattle.lat_laws.specs.tales.Rows.{RowAfter, RowsAfter, KeepsRows, newest_place}
use Rattle.lat_replay.specs.roster.Roster as rosters
use Rattle.lat_wire.specs.Kept.{Kept, setups_of}
use Rattle.lat_wire.specs.Stands as wires

-- the wire stands for the world, the rows are those that are kept of it, and the roster shows them
pub record StandsFor {H : Type 0} (wire : Kept H) (roster : rosters.Kept) (w : Machines) (k : RowsAfter) : Type 0 where
  pub stands : wires.Stands wire w
  pub keeps : KeepsRows (setups_of wire) w k
  pub shows : rosters.HasRows roster k

-- the line has or had a session
abbrev pub HasHad : Core → ℕ → Type 0
HasHad c line = newest_place line 0 0 c.seats ≢ 0

-- the row at a place, from 1 on
abbrev pub RowAt : RowsAfter → ℕ → RowAfter → Type 0
RowAt k place r = slice_get k.rows (place - 1) ≡ Some r
