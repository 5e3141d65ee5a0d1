use Rattle.lat_machines.proofs.tally.Servers.{server_tallies}
use Rattle.lat_machines.proofs.tally.Nodes.{node_tallies}
use Rattle.lat_machines.proofs.tally.Worlds.{machines_tally}
use Rattle.lat_machines.proofs.laws.numbers_are_tallied.Goals as goal

pub returns-clause-server : goal.returns-clause-server
returns-clause-server c = server_tallies

pub returns-clause-node : goal.returns-clause-node
returns-clause-node c = node_tallies

pub returns-clause-machines : goal.returns-clause-machines
returns-clause-machines c = machines_tally
