use Rattle.lat_laws.proofs.promises.Mates.{run_rows}
use Rattle.lat_laws.proofs.laws.promises.node_sessions_have_their_rows.Goals as goal

pub returns : goal.returns
returns c = run_rows
