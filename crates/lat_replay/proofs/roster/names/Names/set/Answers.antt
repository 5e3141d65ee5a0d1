use Rattle.std.proofs.Common.{rules}
use Rattle.lat_replay.proofs.roster.names.Names.set.Goals as goal

pub returns-clause-place : goal.returns-clause-place
returns-clause-place c = λ k. let e = c.in-Ok.ensures.updates.0 k in search rules
