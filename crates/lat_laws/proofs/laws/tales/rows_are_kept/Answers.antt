use Rattle.lat_laws.proofs.tales.rows.Runs.{run_keeps, next_keeps}
use Rattle.lat_laws.proofs.laws.tales.rows_are_kept.Goals as goal

pub returns : goal.returns
returns c = record { all = run_keeps; next = next_keeps }
