use Rattle.lat_local.proofs.Turns.{prompt_last}
use Rattle.lat_local.proofs.laws.prompt_is_last.Goals as goal

pub returns : goal.returns
returns c = prompt_last
