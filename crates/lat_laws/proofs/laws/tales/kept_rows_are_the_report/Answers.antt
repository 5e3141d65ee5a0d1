use Rattle.lat_laws.proofs.tales.rows.Told.{run_told}
use Rattle.lat_laws.proofs.laws.tales.kept_rows_are_the_report.Goals as goal

pub returns : goal.returns
returns c = run_told
