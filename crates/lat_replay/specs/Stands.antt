-- Which worlds of the two machines a world stands for.
use Rattle.std.specs.Prelude.{◌≡◌, ℕ, true, false}
use Rattle.lat_machines.specs.world.Machines.{Machines}
use Rattle.lat_laws.specs.tales.Books.{lines_at}
use Rattle.lat_laws.specs.tales.Rows.{RowsAfter, KeepsRows}
use Rattle.lat_replay.specs.roster.Roster as rosters
use Rattle.lat_wire.specs.Stands as wires
use Rattle.lat_replay.specs.Kept.{Kept, setups_of}

-- the wire does, so they are a run of the machines; and the roster shows the rows that are kept of them
pub record Stands {H : Type 0} (k : Kept H) (w : Machines) : Type 0 where
  pub wire : wires.Stands k.wire w
  pub rows : RowsAfter
  pub keeps : KeepsRows (setups_of k) w rows
  pub shows : rosters.HasRows k.roster rows

-- there is always one; and the lines of both ends are known
pub record Holds {H : Type 0} (k : Kept H) (server_lines node_lines : ℕ) : Type 0 where
  pub world : Machines
  pub stands : Stands k world
  pub of_server : lines_at true (setups_of k) ≡ server_lines
  pub of_node : lines_at false (setups_of k) ≡ node_lines
