use Rattle.std.proofs.Common.{rules}
use Rattle.lat_tariff.proofs.steady.SteadyHook.new.Goals as goal

pub returns-clause-fact : goal.returns-clause-fact
returns-clause-fact g c = search rules
