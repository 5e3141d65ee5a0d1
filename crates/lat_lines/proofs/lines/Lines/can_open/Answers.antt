use Rattle.std.proofs.Common.{ap, ◌∙◌}
use Rattle.std.specs.Result.{is_ok}
use Rattle.lat_machines.specs.values.Addresses.{address}
use Rattle.lat_lines.proofs.Ways.{way_ok}
use Rattle.lat_lines.proofs.lines.Lines.can_open.Goals as goal

pub returns : goal.returns
returns c = λ d st. c.is_ok.ensures.value ∙ ap is_ok (c.opening.ensures.way d st) ∙ way_ok d (address c.args.peer.0)
