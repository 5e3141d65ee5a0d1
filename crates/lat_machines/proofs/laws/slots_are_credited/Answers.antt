use Rattle.lat_machines.proofs.runs.Safety.{every_credit}
use Rattle.lat_machines.proofs.laws.slots_are_credited.Goals as goal

pub returns : goal.returns
returns c = every_credit
