use Rattle.std.proofs.Common.{rules}
use Rattle.lat_draw.proofs.escape.byte_onto.Goals as goal

pub returns-in-60 : goal.returns-in-60
returns-in-60 c = search rules
