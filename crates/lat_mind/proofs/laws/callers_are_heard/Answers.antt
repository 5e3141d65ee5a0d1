use Rattle.lat_mind.proofs.RunLaws.{callers_are_heard}
use Rattle.lat_mind.proofs.laws.callers_are_heard.Goals as goal

pub returns : goal.returns
returns c = callers_are_heard
