use Rattle.lat_machines.proofs.frames.Refused.{server_unchanged, node_unchanged}
use Rattle.lat_machines.proofs.laws.refusals_change_nothing.Goals as goal

pub returns-clause-server : goal.returns-clause-server
returns-clause-server c = server_unchanged

pub returns-clause-node : goal.returns-clause-node
returns-clause-node c = node_unchanged
