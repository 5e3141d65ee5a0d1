use Rattle.lat_mind.proofs.RunLaws.{waits_for_the_restarted}
use Rattle.lat_mind.proofs.laws.waits_for_the_restarted.Goals as goal

pub returns : goal.returns
returns c = waits_for_the_restarted
