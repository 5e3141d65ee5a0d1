use Rattle.lat_local.proofs.Turns.{ends_said}
use Rattle.lat_local.proofs.laws.ends_are_said_once.Goals as goal

pub returns : goal.returns
returns c = ends_said
