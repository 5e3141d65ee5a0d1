use Rattle.lat_terminal.proofs.EditorLaws.{one_typing}
use Rattle.lat_terminal.proofs.laws.typed_pieces_are_one_stream.Goals as goal

pub returns : goal.returns
returns c = one_typing
