use Rattle.lat_runs.proofs.Tariffs.{tariff_run_of}
use Rattle.lat_runs.proofs.laws.tariffs_run.Goals as goal

pub returns : goal.returns
returns g c = tariff_run_of g.P.SteadyRule.may
