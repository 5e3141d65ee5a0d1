use Rattle.std.proofs.Common.{rules}
use Rattle.lat_udp.proofs.udp.UdpTxTx.send.Goals as goal

pub returns-then-send_to_all-clause-cause : goal.returns-then-send_to_all-clause-cause
returns-then-send_to_all-clause-cause c = search rules
