use Rattle.lat_jobs.proofs.RunLaws.{asks_in_time}
use Rattle.lat_jobs.proofs.laws.asks_in_time.Goals as goal

pub returns : goal.returns
returns c = asks_in_time
