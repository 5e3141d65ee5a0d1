use Rattle.std.proofs.Common.{rules}
use Rattle.lat_queue.proofs.queue.Queue.admit.Goals as goal

pub returns-clause-ok : goal.returns-clause-ok
returns-clause-ok c = search rules
