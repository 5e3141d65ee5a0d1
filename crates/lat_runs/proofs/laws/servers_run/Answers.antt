use Rattle.lat_runs.proofs.Servers.{server_run_of}
use Rattle.lat_runs.proofs.laws.servers_run.Goals as goal

pub returns : goal.returns
returns c = server_run_of
