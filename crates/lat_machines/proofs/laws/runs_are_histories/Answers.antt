use Rattle.lat_machines.proofs.runs.Own.{histories_of}
use Rattle.lat_machines.proofs.laws.runs_are_histories.Goals as goal

pub returns : goal.returns
returns c = histories_of
