use Rattle.lat_machines.proofs.runs.Safety.{every_safe}
use Rattle.lat_machines.proofs.laws.young_frames_are_heard_by_bytes.Goals as goal

pub returns : goal.returns
returns c = λ u es f. (every_safe u es f).bytes
