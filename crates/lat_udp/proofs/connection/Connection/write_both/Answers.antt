use Rattle.lat_udp.proofs.Writing.{two_writes}
use Rattle.lat_udp.proofs.connection.Connection.write_both.Goals as goal

pub returns-in-Ok-clause-bytes : goal.returns-in-Ok-clause-bytes
returns-in-Ok-clause-bytes g c = two_writes _ _ _ _ _ _ _ c.in_ok-first.ensures.bytes c.in-Ok.ensures.bytes c.split_at.ensures.back
