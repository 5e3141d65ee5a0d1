use Rattle.std.proofs.Common.{rules}
use Rattle.lat_tariff.proofs.tariff.Tariff.make.Goals as goal

pub invariant_of-result : goal.invariant_of-result
invariant_of-result g c = search rules
