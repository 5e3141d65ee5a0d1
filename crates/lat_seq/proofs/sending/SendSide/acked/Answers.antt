use Rattle.std.proofs.Common.{rules, arith}
use Rattle.std.proofs.lemmas.Grind.{common_steps}
use Rattle.lat_seq.proofs.sending.SendSide.acked.Goals as goal

pub returns-then-ahead-half-clause-distance : goal.returns-then-ahead-half-clause-distance
returns-then-ahead-half-clause-distance c = search rules

pub returns-then-ahead-from-clause-distance : goal.returns-then-ahead-from-clause-distance
returns-then-ahead-from-clause-distance c = search rules

pub returns-clause-after : goal.returns-clause-after
returns-clause-after c = grind (arith, common_steps)
