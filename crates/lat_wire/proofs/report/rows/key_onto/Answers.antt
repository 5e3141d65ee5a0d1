use Rattle.std.proofs.Common.{arith}
use Rattle.std.proofs.lemmas.Grind.{common_steps}
use Rattle.lat_wire.specs.report.ReportText.{key_text}
use Rattle.lat_wire.proofs.report.rows.key_onto.Goals as goal

pub returns : goal.returns
unfolding key_text
returns c = grind (arith, common_steps)
