use Rattle.lat_laws.proofs.promises.Circuits.{running_shared, standing}
use Rattle.lat_laws.proofs.laws.promises.running_circuits_are_shared.Goals as goal

pub returns : goal.returns
returns c = λ u moves f. running_shared u _ (standing u f moves)
