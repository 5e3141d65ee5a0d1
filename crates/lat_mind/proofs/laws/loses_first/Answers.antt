use Rattle.lat_mind.proofs.RunLaws.{loses_first}
use Rattle.lat_mind.proofs.laws.loses_first.Goals as goal

pub returns : goal.returns
returns c = loses_first
