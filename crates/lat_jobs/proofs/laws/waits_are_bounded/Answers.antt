use Rattle.lat_jobs.proofs.RunLaws.{waits_are_bounded}
use Rattle.lat_jobs.proofs.laws.waits_are_bounded.Goals as goal

pub returns : goal.returns
returns c = waits_are_bounded
