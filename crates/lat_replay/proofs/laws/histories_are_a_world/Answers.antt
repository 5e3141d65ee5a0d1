use Rattle.lat_machines.proofs.runs.Stories.{stories}
use Rattle.lat_replay.proofs.laws.histories_are_a_world.Goals as goal

pub returns : goal.returns
returns c = stories
