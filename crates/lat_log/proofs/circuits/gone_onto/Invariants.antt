use Rattle.std.proofs.Common.{◌≡◌, ◌++◌, take}
use Rattle.std.specs.List.{flat_map}
use Rattle.lat_log.specs.CircuitNews.{went_down}
use Rattle.lat_log.proofs.circuits.gone_onto.Given as goal

abbrev pub invariant-loop-circuit : goal.invariant-loop-circuit
invariant-loop-circuit l = l.news ≡ l.initial.news ++ flat_map (went_down l.side l.trigger l.now) (take l.circuit-index l.old)
