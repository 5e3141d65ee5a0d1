use Rattle.lat_log.proofs.Few.{few_are_said_once}
use Rattle.lat_log.proofs.laws.few_are_said_once.Goals as goal

pub returns : goal.returns
returns c = few_are_said_once
