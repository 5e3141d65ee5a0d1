use Rattle.lat_jobs.proofs.Reasons.{why_at}
use Rattle.lat_jobs.proofs.laws.moves_have_reasons.Goals as goal

pub returns : goal.returns
returns c = λ m see turn. why_at m.wait m.phase see turn
