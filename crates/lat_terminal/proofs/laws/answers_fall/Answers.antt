use Rattle.lat_terminal.proofs.TelnetLaws.{falls}
use Rattle.lat_terminal.proofs.laws.answers_fall.Goals as goal

pub returns : goal.returns
returns c = falls
