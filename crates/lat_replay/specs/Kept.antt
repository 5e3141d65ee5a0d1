-- What is kept of a world.
use Rattle.std.specs.Prelude.{ℕ}
use Rattle.lat_machines.specs.world.Machines.{Setups}
use Rattle.lat_replay.specs.roster.Roster as rosters
use Rattle.lat_wire.specs.Kept as wires

-- H is the rule by which the node rates its services
pub record Kept (H : Type 0) : Type 0 where
  pub wire : wires.Kept H
  pub roster : rosters.Kept

-- what both ends are made of
abbrev pub setups_of : {H : Type 0} → Kept H → Setups
setups_of k = wires.setups_of k.wire

-- the moment of the schedule
abbrev pub moment_of : {H : Type 0} → Kept H → ℕ
moment_of k = k.wire.moment
