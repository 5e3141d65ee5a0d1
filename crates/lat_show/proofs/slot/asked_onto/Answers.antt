use Rattle.std.proofs.Common.{arith}
use Rattle.std.proofs.lemmas.Grind.{common_steps}
use Rattle.lat_show.specs.SlotPrinted.{asked_printed}
use Rattle.lat_show.proofs.slot.asked_onto.Goals as goal

pub returns : goal.returns
unfolding asked_printed
returns c = grind (arith, common_steps)
