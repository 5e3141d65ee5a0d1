use Rattle.lat_tariff.proofs.Own.{own_full}
use Rattle.lat_tariff.proofs.laws.own_ratings_tell_fullness.Goals as goal

pub returns : goal.returns
returns g c = own_full _ _ g.met.R.SteadyRule.full
