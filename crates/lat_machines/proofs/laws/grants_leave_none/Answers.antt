use Rattle.lat_machines.proofs.queue.Alone.{none_left}
use Rattle.lat_machines.proofs.laws.grants_leave_none.Goals as goal

pub returns : goal.returns
returns c = none_left
