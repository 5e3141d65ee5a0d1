use Rattle.std.proofs.Common.{arith}
use Rattle.std.proofs.lemmas.Grind.{elements}
use Rattle.lat_replay.proofs.grants.grow.Goals as goal

pub loop-preserved : goal.loop-preserved
loop-preserved c = grind (arith, elements)
