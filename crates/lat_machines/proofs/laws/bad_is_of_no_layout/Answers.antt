use Rattle.lat_machines.proofs.frames.Reads.{server_bad_only, node_bad_only}
use Rattle.lat_machines.proofs.laws.bad_is_of_no_layout.Goals as goal

pub returns-clause-server : goal.returns-clause-server
returns-clause-server c = server_bad_only

pub returns-clause-node : goal.returns-clause-node
returns-clause-node c = node_bad_only
