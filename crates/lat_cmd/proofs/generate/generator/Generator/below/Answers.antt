use Rattle.std.proofs.Common.{rules}
use Rattle.lat_cmd.proofs.generate.generator.Generator.below.Goals as goal

pub returns-clause-value : goal.returns-clause-value
unfolding Rattle.lat_cmd.specs.generate.Draws.below
returns-clause-value c = search rules
