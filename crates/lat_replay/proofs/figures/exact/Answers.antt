use Rattle.std.proofs.Common.{rules}
use Rattle.lat_replay.proofs.figures.exact.Goals as goal

pub returns : goal.returns
returns c = search rules
