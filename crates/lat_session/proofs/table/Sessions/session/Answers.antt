use Rattle.std.proofs.Common.{arith}
use Rattle.std.proofs.lemmas.Grind.{elements}
use Rattle.lat_session.proofs.table.Sessions.session.Goals as goal

pub returns : goal.returns
returns c = grind (arith, elements)
