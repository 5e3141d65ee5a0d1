use Rattle.lat_turns.proofs.Keeping.{keeps}
use Rattle.lat_turns.proofs.laws.switches_keep_callers.Goals as goal

pub returns : goal.returns
returns c = λ m g see kept. keeps m g see kept
