use Rattle.std.proofs.Common.{◌≡◌, ◌-◌, map, drop, find}
use Rattle.lat_server.specs.Stands.{Machine, IsMachine}
use Rattle.lat_switch.specs.Lines.{has_session, turned, round}
use Rattle.lat_switch.proofs.Lines.{turns}
use Rattle.lat_switch.proofs.line.Line.next_session.Given as goal

abbrev pub invariant-loop-by : goal.invariant-loop-by
invariant-loop-by l =
    (m : Machine) → IsMachine l.inner m → find (has_session m) (map (turned l.self) (drop (l.by - 1) turns)) ≡ find (has_session m) (round l.self)
