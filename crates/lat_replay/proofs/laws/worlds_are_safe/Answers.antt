use Rattle.lat_replay.proofs.Promising.{stands_safe}
use Rattle.lat_replay.proofs.laws.worlds_are_safe.Goals as goal

pub returns : goal.returns
returns g c = λ k w s. stands_safe k w s
