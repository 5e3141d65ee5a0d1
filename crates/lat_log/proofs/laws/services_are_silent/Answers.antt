use Rattle.lat_log.proofs.Silent.{services_are_silent}
use Rattle.lat_log.proofs.laws.services_are_silent.Goals as goal

pub returns : goal.returns
returns c = services_are_silent
