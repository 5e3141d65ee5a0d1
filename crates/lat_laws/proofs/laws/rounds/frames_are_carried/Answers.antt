use Rattle.std.specs.Prelude.{[]}
use Rattle.lat_model.specs.circuits.Events.{open_world}
use Rattle.lat_model.proofs.circuits.Arrives.{open_world_ok}
use Rattle.lat_laws.proofs.rounds.carried.Kinds.{open_kinds}
use Rattle.lat_laws.proofs.rounds.carried.Runnings.{go_on_carried, open_carried}
use Rattle.lat_laws.proofs.laws.rounds.frames_are_carried.Goals as goal

pub returns : goal.returns
returns c = λ s n i j u v es a h k o. go_on_carried es (open_world s n i j u v) [] (open_world_ok s n i j u v a h k) (open_kinds s n i j u v) (open_carried s n i j u v) o
