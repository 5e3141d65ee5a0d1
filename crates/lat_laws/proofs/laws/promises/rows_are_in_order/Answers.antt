use Rattle.lat_laws.proofs.promises.Rows.{rows_in_order}
use Rattle.lat_laws.proofs.laws.promises.rows_are_in_order.Goals as goal

pub returns : goal.returns
returns c = rows_in_order
