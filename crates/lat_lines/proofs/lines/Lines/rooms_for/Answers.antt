use Rattle.std.proofs.Common.{subst}
use Rattle.std.specs.Prelude.{IfOk}
use Rattle.lat_lines.specs.circuits.Kept.{AreRooms}
use Rattle.lat_lines.specs.Kept.{Kept}
use Rattle.lat_lines.proofs.lines.Lines.rooms_for.Goals as goal

pub returns : goal.returns
returns c = subst (λ (z : Kept). IfOk c.rooms_for.result (λ more. AreRooms c.args.count z.circuits more.items)) c.self.view_is c.rooms_for.ensures
