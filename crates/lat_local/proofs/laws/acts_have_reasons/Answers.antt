use Rattle.lat_local.proofs.Whys.{turn_why}
use Rattle.lat_local.proofs.laws.acts_have_reasons.Goals as goal

pub returns : goal.returns
returns c = turn_why
