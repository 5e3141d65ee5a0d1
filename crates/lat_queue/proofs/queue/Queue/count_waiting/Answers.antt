use Rattle.std.proofs.Common.{◌≤◌, arith}
use Rattle.lat_queue.proofs.queue.Queue.count_waiting.Goals as goal

pub returns-clause-few : goal.returns-clause-few
returns-clause-few c = omega (arith, c.self.invariant.1, c.self.invariant.0.bound, c.self.invariant.0.size)
