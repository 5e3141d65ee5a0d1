use Rattle.std.proofs.Common.{arith}
use Rattle.std.proofs.lemmas.Grind.{common_steps}
use Rattle.lat_captures.proofs.accounts.Accounts.takes_all.Goals as goal

pub loop-owned-preserved : goal.loop-owned-preserved
loop-owned-preserved c = grind (arith, common_steps)

pub returns : goal.returns
returns c = grind (arith, common_steps)
