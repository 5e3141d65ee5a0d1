use Rattle.std.proofs.Common.{◌∙◌, ap, arith}
use Rattle.std.proofs.lemmas.Grind.{elements}
use Rattle.lat_lines.specs.Kept.{Kept}
use Rattle.lat_lines.proofs.lines.Lines.pass.Goals as goal

pub returns-clause-state : goal.returns-clause-state
returns-clause-state c = grind (arith, elements)

pub returns-clause-rooms : goal.returns-clause-rooms
returns-clause-rooms c = c.pass.ensures.rooms ∙ ap (λ (z : Kept). z.circuits.rooms) c.self.view_is
