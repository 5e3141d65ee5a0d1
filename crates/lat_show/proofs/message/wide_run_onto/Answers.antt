use Rattle.std.proofs.Common.{arith}
use Rattle.std.proofs.lemmas.Grind.{common_steps}
use Rattle.lat_show.proofs.message.wide_run_onto.Goals as goal

pub returns : goal.returns
unfolding Rattle.lat_show.specs.MessagePrinted.wide_run_printed
returns c = grind (arith, common_steps)
