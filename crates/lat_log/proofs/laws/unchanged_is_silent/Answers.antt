use Rattle.lat_log.proofs.Silent.{unchanged_is_silent}
use Rattle.lat_log.proofs.laws.unchanged_is_silent.Goals as goal

pub returns : goal.returns
returns c = unchanged_is_silent
