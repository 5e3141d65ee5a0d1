use Rattle.lat_runs.proofs.Nodes.{node_run_of}
use Rattle.lat_runs.proofs.laws.nodes_run.Goals as goal

pub returns : goal.returns
returns g c = node_run_of g.H.RatingRule.may
