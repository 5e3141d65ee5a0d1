use Rattle.lat_explain.proofs.ColumnLaws.{columns_right}
use Rattle.lat_explain.proofs.laws.columns_are_right.Goals as goal

pub returns : goal.returns
returns c = columns_right
