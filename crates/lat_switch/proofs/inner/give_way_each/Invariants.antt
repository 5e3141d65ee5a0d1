use Rattle.std.proofs.Common.{◌≡◌, ◌++◌, map, take, drop}
use Rattle.lat_server.specs.Stands.{Machine, IsMachine}
use Rattle.lat_switch.specs.Lines.{gives_way}
use Rattle.lat_switch.proofs.inner.give_way_each.Given as goal

abbrev pub invariant-loop-line : goal.invariant-loop-line
invariant-loop-line l =
    (m : Machine) → IsMachine l.inner m → l.line-items ≡ map (gives_way m) (take l.line-index l.initial.line-items) ++ drop l.line-index l.initial.line-items
