use Rattle.lat_runs.proofs.Servers as servers
use Rattle.lat_runs.proofs.Switches as switches
use Rattle.lat_runs.proofs.laws.queues_are_legal.Goals as goal

pub returns-clause-server : goal.returns-clause-server
returns-clause-server c = servers.legal_behind

pub returns-clause-switch : goal.returns-clause-switch
returns-clause-switch c = switches.legal_behind
