use Rattle.std.proofs.Common.{arith}
use Rattle.std.proofs.lemmas.Grind.{common_steps}
use Rattle.lat_stream.proofs.held.let_go.Goals as goal

pub returns-then-left-n-clause-held : goal.returns-then-left-n-clause-held
returns-then-left-n-clause-held c = grind (arith, common_steps)
