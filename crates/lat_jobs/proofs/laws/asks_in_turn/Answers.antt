use Rattle.lat_jobs.proofs.QueueLaws.{asks_in_turn}
use Rattle.lat_jobs.proofs.laws.asks_in_turn.Goals as goal

pub returns : goal.returns
returns c = asks_in_turn
