use Rattle.std.proofs.Common.{rules}
use Rattle.lat_dir.proofs.node.Node.better.Goals as goal

pub returns : goal.returns
returns c = search rules
