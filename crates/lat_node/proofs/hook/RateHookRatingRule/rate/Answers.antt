use Rattle.std.proofs.Common.{rules}
use Rattle.lat_node.proofs.hook.RateHookRatingRule.rate.Goals as goal

pub returns : goal.returns
returns g c = search rules
