use Rattle.lat_terminal.proofs.EditorLaws.{short}
use Rattle.lat_terminal.proofs.laws.lines_are_short.Goals as goal

pub returns : goal.returns
returns c = short
