use Rattle.lat_runs.proofs.Whole.{server_hears}
use Rattle.lat_runs.proofs.laws.server_hears_node.Goals as goal

pub returns : goal.returns
returns g c = server_hears _
