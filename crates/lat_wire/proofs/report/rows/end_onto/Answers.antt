use Rattle.std.proofs.Common.{arith}
use Rattle.std.proofs.lemmas.Grind.{elements}
use Rattle.lat_wire.specs.report.ReportText.{end_text}
use Rattle.lat_wire.proofs.report.rows.end_onto.Goals as goal

pub returns-in-Some-Rejected : goal.returns-in-Some-Rejected
unfolding end_text
returns-in-Some-Rejected c = grind (arith, elements)
