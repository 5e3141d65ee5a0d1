use Rattle.lat_terminal.proofs.TelnetLaws.{answered}
use Rattle.lat_terminal.proofs.laws.requests_are_answered.Goals as goal

pub returns : goal.returns
returns c = answered
