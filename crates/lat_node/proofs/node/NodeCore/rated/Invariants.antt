use Rattle.std.proofs.Common.{◌≡◌, map, take}
use Rattle.lat_machines.specs.node.Node as machine
use Rattle.lat_dir.specs.Announcements.{service_shown}
use Rattle.lat_node.specs.Announced.{ratings}
use Rattle.lat_node.specs.Places.{places_from, AreRates}
use Rattle.lat_node.proofs.node.NodeCore.rated.Given as goal

abbrev pub invariant-loop-place : goal.invariant-loop-place
invariant-loop-place g l = record {
  names : map service_shown l.services ≡ machine.rated (take l.place l.names) (ratings l.services);
  rates : AreRates (g.H.RatingRule.may l.self.rule) l.used l.self.lines.lines (places_from 0 l.place) (ratings l.services);
}
