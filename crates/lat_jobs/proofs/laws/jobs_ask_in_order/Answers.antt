use Rattle.lat_jobs.proofs.QueueLaws.{jobs_ask_in_order}
use Rattle.lat_jobs.proofs.laws.jobs_ask_in_order.Goals as goal

pub returns : goal.returns
returns c = jobs_ask_in_order
