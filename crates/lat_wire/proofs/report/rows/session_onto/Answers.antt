use Rattle.std.proofs.Common.{arith}
use Rattle.std.proofs.lemmas.Grind.{common_steps}
use Rattle.lat_wire.proofs.report.rows.session_onto.Goals as goal

pub returns : goal.returns
returns c = grind (arith, common_steps)
