use Rattle.lat_audit.proofs.WrittenRead.{capture_read}
use Rattle.lat_audit.proofs.laws.written_is_read.Goals as goal

pub returns : goal.returns
returns c = capture_read
