use Rattle.std.proofs.Common.{rules}
use Rattle.lat_node.proofs.node.NodeCore.rating.Goals as goal

pub returns : goal.returns
returns g c = search rules
