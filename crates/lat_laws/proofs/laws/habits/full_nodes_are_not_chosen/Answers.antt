use Rattle.lat_laws.proofs.habits.Fullness.{tells_fullness, full_not_chosen}
use Rattle.lat_laws.proofs.laws.habits.full_nodes_are_not_chosen.Goals as goal

pub returns : goal.returns
returns c = record { told = tells_fullness; full = full_not_chosen }
