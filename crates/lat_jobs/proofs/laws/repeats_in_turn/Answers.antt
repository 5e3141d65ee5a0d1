use Rattle.lat_jobs.proofs.QueueLaws.{repeats_in_turn}
use Rattle.lat_jobs.proofs.laws.repeats_in_turn.Goals as goal

pub returns : goal.returns
returns c = repeats_in_turn
