use Rattle.lat_machines.proofs.queue.Alone.{legal_alone}
use Rattle.lat_machines.proofs.laws.queue_is_legal.Goals as goal

pub returns : goal.returns
returns c = legal_alone
