use Rattle.std.proofs.Common.{◌-◌}
use Rattle.lat_machines.specs.server.Server.{Server}
use Rattle.lat_server.specs.Stands.{Stands}
use Rattle.lat_replay.specs.Places.{Places}
use Rattle.lat_replay.proofs.grants.places_of.Given as goal

abbrev pub invariant-loop-request : goal.invariant-loop-request
invariant-loop-request l = (s : Server) → Stands l.server s → Places s.queue l.number l.places.items

abbrev pub decreases-loop-request : goal.decreases-loop-request
decreases-loop-request l = 65536 - l.number
