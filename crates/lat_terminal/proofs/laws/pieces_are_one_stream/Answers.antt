use Rattle.lat_terminal.proofs.TelnetLaws.{one_stream}
use Rattle.lat_terminal.proofs.laws.pieces_are_one_stream.Goals as goal

pub returns : goal.returns
returns c = one_stream
