use Rattle.lat_tariff.proofs.Asked.{own_rules}
use Rattle.lat_tariff.proofs.laws.own_rules_rate.Goals as goal

pub returns : goal.returns
returns g c = own_rules g.R.SteadyRule.may
