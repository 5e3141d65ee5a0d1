use Rattle.std.proofs.Common.{◌≡◌, ◌+◌, not, map, drop, find}
use Rattle.lat_server.specs.Stands.{Machine, IsMachine}
use Rattle.lat_switch.specs.Lines.{has_session, first_free}
use Rattle.lat_switch.proofs.Lines.{places}
use Rattle.lat_switch.proofs.line.Line.first_free.Given as goal

abbrev pub invariant-loop-place : goal.invariant-loop-place
invariant-loop-place l =
    (m : Machine) → IsMachine l.inner m → find (λ x. not (has_session m x)) (map (λ i. l.self.first + i) (drop l.place places)) ≡ first_free m l.self
