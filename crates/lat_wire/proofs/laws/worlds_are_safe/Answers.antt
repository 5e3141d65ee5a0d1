use Rattle.lat_wire.proofs.Standing.{stands_safe}
use Rattle.lat_wire.proofs.laws.worlds_are_safe.Goals as goal

pub returns : goal.returns
returns g c = λ k w s. stands_safe k w s
