use Rattle.lat_machines.proofs.frames.Refused.{server_no_layout, node_no_layout}
use Rattle.lat_machines.proofs.laws.frames_of_no_layout_change_nothing.Goals as goal

pub returns-clause-server : goal.returns-clause-server
returns-clause-server c = server_no_layout

pub returns-clause-node : goal.returns-clause-node
returns-clause-node c = node_no_layout
