use Rattle.lat_machines.proofs.runs.Safety.{every_safe}
use Rattle.lat_machines.proofs.laws.shared_circuits_match.Goals as goal

pub returns : goal.returns
returns c = λ u es f. (every_safe u es f).shared
