use Rattle.std.proofs.Common.{◌≡◌}
use Rattle.lat_udp.proofs.connection.Connection.hang_up.Given as goal

abbrev pub invariant-loop : goal.invariant-loop
invariant-loop g l = l.self-inside.visit ≡ l.fn.self.visit
