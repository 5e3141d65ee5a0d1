use Rattle.lat_runs.proofs.Switches.{switch_run_of}
use Rattle.lat_runs.proofs.laws.switches_run.Goals as goal

pub returns : goal.returns
returns c = switch_run_of
