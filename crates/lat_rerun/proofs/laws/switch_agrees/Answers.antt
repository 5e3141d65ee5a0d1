use Rattle.lat_rerun.proofs.Agreeing.{switch_agrees}
use Rattle.lat_rerun.proofs.laws.switch_agrees.Goals as goal

pub returns : goal.returns
returns c = switch_agrees
