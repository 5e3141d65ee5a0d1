use Rattle.std.proofs.Common.{arith}
use Rattle.std.proofs.lemmas.Grind.{elements}
use Rattle.lat_queue.proofs.queue.Queue.info_of.Goals as goal

pub place_of-requires : goal.place_of-requires
place_of-requires c = grind (arith, elements)

pub returns-in-Waits-clause-value : goal.returns-in-Waits-clause-value
returns-in-Waits-clause-value c = grind (arith, elements)
