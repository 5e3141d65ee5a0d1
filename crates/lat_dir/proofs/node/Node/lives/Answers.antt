use Rattle.std.proofs.Common.{rules}
use Rattle.lat_dir.proofs.node.Node.lives.Goals as goal

pub returns : goal.returns
returns c = search rules
