use Rattle.lat_rerun.proofs.Agreeing.{server_agrees}
use Rattle.lat_rerun.proofs.laws.server_agrees.Goals as goal

pub returns : goal.returns
returns c = server_agrees
