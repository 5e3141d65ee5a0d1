use Rattle.lat_printing.proofs.Desks.{desks_go_as_tales}
use Rattle.lat_printing.proofs.laws.desks_go_as_tales.Goals as goal

pub returns : goal.returns
returns c = desks_go_as_tales
