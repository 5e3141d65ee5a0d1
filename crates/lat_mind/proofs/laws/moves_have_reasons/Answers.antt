use Rattle.lat_mind.proofs.Reasons.{why_at}
use Rattle.lat_mind.proofs.laws.moves_have_reasons.Goals as goal

pub returns : goal.returns
returns c = λ m see. why_at m m.phase see
