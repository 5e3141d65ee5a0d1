use Rattle.lat_tariff.proofs.Own.{own_steady}
use Rattle.lat_tariff.proofs.laws.more_held_rates_no_higher.Goals as goal

pub returns : goal.returns
returns g c = own_steady _ _ g.met.R.SteadyRule.steady
