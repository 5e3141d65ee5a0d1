use Rattle.lat_laws.proofs.promises.Rows.{rows_in_credit}
use Rattle.lat_laws.proofs.laws.promises.rows_keep_to_their_credits.Goals as goal

pub returns : goal.returns
returns c = rows_in_credit
