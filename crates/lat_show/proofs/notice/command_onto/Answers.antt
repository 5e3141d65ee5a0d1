use Rattle.std.proofs.Common.{arith}
use Rattle.std.proofs.lemmas.Grind.{common_steps}
use Rattle.lat_show.specs.NoticePrinted.{command_printed}
use Rattle.lat_show.proofs.notice.command_onto.Goals as goal

pub returns : goal.returns
unfolding command_printed
returns c = grind (arith, common_steps)
