use Rattle.lat_replay.proofs.Promising.{stands_promises}
use Rattle.lat_replay.proofs.laws.worlds_keep_promises.Goals as goal

pub returns : goal.returns
returns g c = λ k w s. stands_promises k w s
