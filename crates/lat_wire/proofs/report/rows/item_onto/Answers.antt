use Rattle.std.proofs.Common.{arith}
use Rattle.std.proofs.lemmas.Grind.{common_steps}
use Rattle.lat_wire.proofs.report.rows.item_onto.Goals as goal

pub returns-in_ok-hex_onto-in-Set : goal.returns-in_ok-hex_onto-in-Set
returns-in_ok-hex_onto-in-Set c = grind (arith, common_steps)
