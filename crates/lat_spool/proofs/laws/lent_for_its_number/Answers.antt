use Rattle.lat_spool.proofs.Steps.{lent_for_its_number}
use Rattle.lat_spool.proofs.laws.lent_for_its_number.Goals as goal

pub returns : goal.returns
returns g c = lent_for_its_number g.J.Load.mind_of
