use Rattle.std.proofs.Common.{rules}
use Rattle.lat_server.proofs.step.ServerCoreCore.node.Goals as goal

pub node-requires : goal.node-requires
node-requires c = search rules

pub returns : goal.returns
returns c = search rules
