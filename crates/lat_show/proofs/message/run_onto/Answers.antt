use Rattle.std.proofs.Common.{arith}
use Rattle.std.proofs.lemmas.Grind.{common_steps}
use Rattle.lat_show.specs.MessagePrinted.{run_printed}
use Rattle.lat_show.proofs.message.run_onto.Goals as goal

pub returns : goal.returns
unfolding run_printed
returns c = grind (arith, common_steps)
