use Rattle.std.proofs.Common.{arith}
use Rattle.std.proofs.lemmas.Grind.{common_steps}
use Rattle.lat_show.proofs.notice.announcement_onto.Goals as goal

pub returns : goal.returns
unfolding Rattle.lat_show.specs.NoticePrinted.announcement_printed
returns c = grind (arith, common_steps)
