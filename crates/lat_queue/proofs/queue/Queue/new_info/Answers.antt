use Rattle.std.proofs.Common.{arith}
use Rattle.std.proofs.lemmas.Grind.{elements}
use Rattle.lat_queue.proofs.queue.Queue.new_info.Goals as goal

pub returns-in-Waits-clause-value : goal.returns-in-Waits-clause-value
returns-in-Waits-clause-value c = grind (arith, elements)

pub returns-in-Waits-clause-place : goal.returns-in-Waits-clause-place
returns-in-Waits-clause-place c = grind (arith, elements)
