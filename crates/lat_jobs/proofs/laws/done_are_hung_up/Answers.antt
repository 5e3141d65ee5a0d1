use Rattle.lat_jobs.proofs.RunLaws.{done_are_hung_up}
use Rattle.lat_jobs.proofs.laws.done_are_hung_up.Goals as goal

pub returns : goal.returns
returns c = done_are_hung_up
