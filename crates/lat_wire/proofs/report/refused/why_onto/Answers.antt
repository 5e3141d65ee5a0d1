use Rattle.std.proofs.Common.{arith}
use Rattle.std.proofs.lemmas.Grind.{common_steps, elements}
use Rattle.lat_wire.proofs.report.refused.why_onto.Goals as goal

pub returns-in-Backward : goal.returns-in-Backward
returns-in-Backward c = grind (arith, common_steps)

pub returns-in-FramesLimit : goal.returns-in-FramesLimit
returns-in-FramesLimit c = grind (arith, elements)

pub returns-in-NoFrame : goal.returns-in-NoFrame
returns-in-NoFrame c = grind (arith, common_steps)

pub returns-in-Old : goal.returns-in-Old
returns-in-Old c = grind (arith, common_steps)
