use Rattle.std.proofs.Common.{◌-◌, get_or, ap, ◌∙◌}
use Rattle.lat_switch.specs.Kept.{Kept}
use Rattle.lat_switch.proofs.Courses.{line_was}
use Rattle.lat_switch.proofs.switch.SwitchCore.line_at.Goals as goal

pub returns : goal.returns
returns c = line_was c.args.self.now.lines c.args.line c.index.result.now c.requires (c.index.ensures ∙ ap (λ (z : Kept). get_or z.lines (c.args.line - 1) c.index.result.now) c.self.view_is)
