use Rattle.std.proofs.Common.{rules}
use Rattle.lat_cmd.proofs.generate.texts.end_onto.Goals as goal

pub returns : goal.returns
returns c = search rules
