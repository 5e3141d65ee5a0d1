use Rattle.std.proofs.Common.{rules}
use Rattle.lat_draw.proofs.events.came_onto.Goals as goal

pub returns : goal.returns
returns g c = search rules
