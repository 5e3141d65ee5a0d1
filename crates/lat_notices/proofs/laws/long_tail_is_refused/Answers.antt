use Rattle.lat_notices.proofs.Exact.{text_refused}
use Rattle.lat_notices.proofs.laws.long_tail_is_refused.Goals as goal

pub returns : goal.returns
returns c = text_refused
