use Rattle.lat_terminal.proofs.EditorLaws.{ends_agree}
use Rattle.lat_terminal.proofs.laws.ends_agree.Goals as goal

pub returns : goal.returns
returns c = ends_agree
