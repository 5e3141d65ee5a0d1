use Rattle.lat_notices.proofs.Exact.{outcome_of}
use Rattle.lat_notices.proofs.laws.one_outcome.Goals as goal

pub returns : goal.returns
returns c = outcome_of
