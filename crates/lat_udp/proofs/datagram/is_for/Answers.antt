use Rattle.std.proofs.Common.{rules}
use Rattle.lat_udp.proofs.datagram.is_for.Goals as goal

pub returns-else-eq : goal.returns-else-eq
returns-else-eq c = search rules
