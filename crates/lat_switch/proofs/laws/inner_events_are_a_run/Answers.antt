use Rattle.lat_switch.proofs.Runs.{inner_run}
use Rattle.lat_switch.proofs.laws.inner_events_are_a_run.Goals as goal

pub returns : goal.returns
returns c = inner_run
