use Rattle.lat_node.proofs.CountLemmas.{machines_frames}
use Rattle.lat_node.proofs.laws.frames_are_machines.Goals as goal

pub returns : goal.returns
returns g c = machines_frames _
