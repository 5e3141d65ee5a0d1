use Rattle.lat_model.specs.circuits.Events.{open_world}
use Rattle.lat_model.proofs.circuits.Arrives.{open_world_ok}
use Rattle.lat_laws.proofs.rounds.plain.Worlds.{go_on_plain, open_plain}
use Rattle.lat_laws.proofs.laws.rounds.sessions_stay_plain.Goals as goal

pub returns : goal.returns
returns c = λ s n i j u v es a h k e. go_on_plain es (open_world s n i j u v) (open_world_ok s n i j u v a h k) (open_plain s n i j u v) e
