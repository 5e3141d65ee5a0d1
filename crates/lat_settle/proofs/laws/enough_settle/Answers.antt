use Rattle.lat_settle.proofs.Refusing.{enough_settle}
use Rattle.lat_settle.proofs.laws.enough_settle.Goals as goal

pub returns : goal.returns
returns c = enough_settle
