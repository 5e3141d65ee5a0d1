use Rattle.lat_machines.proofs.frames.Homes.{server_home}
use Rattle.lat_machines.proofs.frames.Passes.{server_stays}
use Rattle.lat_server.proofs.laws.heard_stays_home.Goals as goal

pub returns-clause-hearing : goal.returns-clause-hearing
returns-clause-hearing c = server_home

pub returns-clause-step : goal.returns-clause-step
returns-clause-step c = server_stays
