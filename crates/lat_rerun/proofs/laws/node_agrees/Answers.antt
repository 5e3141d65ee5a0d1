use Rattle.lat_rerun.proofs.Agreeing.{node_agrees}
use Rattle.lat_rerun.proofs.laws.node_agrees.Goals as goal

pub returns : goal.returns
returns g c = node_agrees _
