use Rattle.lat_runs.proofs.Servers.{server_cell}
use Rattle.lat_runs.proofs.Nodes.{node_cell}
use Rattle.lat_runs.proofs.Switches.{switch_cell}
use Rattle.lat_runs.proofs.laws.cells_run.Goals as goal

pub returns-clause-server : goal.returns-clause-server
returns-clause-server g c = server_cell

pub returns-clause-node : goal.returns-clause-node
returns-clause-node g c = node_cell

pub returns-clause-tariff : goal.returns-clause-tariff
returns-clause-tariff g c = node_cell

pub returns-clause-switch : goal.returns-clause-switch
returns-clause-switch g c = switch_cell
