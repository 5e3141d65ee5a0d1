use Rattle.lat_jobs.proofs.RunLaws.{runs_are_right}
use Rattle.lat_jobs.proofs.laws.runs_are_right.Goals as goal

pub returns : goal.returns
returns c = runs_are_right
