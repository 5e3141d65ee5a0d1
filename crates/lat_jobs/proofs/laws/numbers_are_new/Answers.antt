use Rattle.lat_jobs.proofs.QueueLaws.{numbers_are_new}
use Rattle.lat_jobs.proofs.laws.numbers_are_new.Goals as goal

pub returns : goal.returns
returns c = numbers_are_new
