use Rattle.lat_jobs.proofs.RunLaws.{over_is_still}
use Rattle.lat_jobs.proofs.laws.over_is_still.Goals as goal

pub returns : goal.returns
returns c = over_is_still
