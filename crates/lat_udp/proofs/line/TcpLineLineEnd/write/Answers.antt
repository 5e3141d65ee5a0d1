use Rattle.std.proofs.Common.{rules}
use Rattle.lat_udp.proofs.line.TcpLineLineEnd.write.Goals as goal

pub returns-in-Err-clause-cause : goal.returns-in-Err-clause-cause
returns-in-Err-clause-cause g c = search rules
