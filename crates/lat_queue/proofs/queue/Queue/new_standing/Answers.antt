use Rattle.std.proofs.Common.{arith}
use Rattle.std.proofs.lemmas.Grind.{elements}
use Rattle.lat_queue.proofs.queue.Queue.new_standing.Goals as goal

pub returns-in-Some-2-clause-value : goal.returns-in-Some-2-clause-value
returns-in-Some-2-clause-value c = grind (arith, elements)

pub returns-in-Some-clause-value : goal.returns-in-Some-clause-value
returns-in-Some-clause-value c = grind (arith, elements)

pub returns-in-Some-2-clause-new : goal.returns-in-Some-2-clause-new
returns-in-Some-2-clause-new c = grind (arith, elements)
