use Rattle.std.proofs.Common.{◌≡◌, ◌++◌, take}
use Rattle.std.specs.List.{flat_map}
use Rattle.lat_log.specs.CircuitNews.{came_up}
use Rattle.lat_log.proofs.circuits.come_onto.Given as goal

abbrev pub invariant-loop-circuit : goal.invariant-loop-circuit
invariant-loop-circuit l = l.news ≡ l.initial.news ++ flat_map (came_up l.old) (take l.circuit-index l.now)
