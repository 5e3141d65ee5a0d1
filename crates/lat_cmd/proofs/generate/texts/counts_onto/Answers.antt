use Rattle.std.proofs.Common.{rules}
use Rattle.lat_cmd.proofs.generate.texts.counts_onto.Goals as goal

pub returns : goal.returns
unfolding Rattle.lat_cmd.specs.generate.Grown.counts_text
returns c = search rules
