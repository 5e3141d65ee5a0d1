use Rattle.lat_jobs.proofs.RunLaws.{repeats_in_time}
use Rattle.lat_jobs.proofs.laws.repeats_in_time.Goals as goal

pub returns : goal.returns
returns c = repeats_in_time
