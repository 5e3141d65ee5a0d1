use Rattle.lat_runs.proofs.Whole.{node_hears}
use Rattle.lat_runs.proofs.laws.node_hears_server.Goals as goal

pub returns : goal.returns
returns g c = node_hears _
