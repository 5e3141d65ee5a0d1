use Rattle.lat_machines.proofs.frames.Homes.{node_home}
use Rattle.lat_node.proofs.laws.heard_stays_home.Goals as goal

pub returns : goal.returns
returns c = node_home
