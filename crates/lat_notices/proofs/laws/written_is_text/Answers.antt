use Rattle.lat_notices.proofs.Exact.{padded_is}
use Rattle.lat_notices.proofs.laws.written_is_text.Goals as goal

pub returns : goal.returns
returns c = padded_is
