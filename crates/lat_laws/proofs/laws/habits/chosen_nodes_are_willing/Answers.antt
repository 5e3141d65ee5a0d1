use Rattle.lat_laws.proofs.habits.Chosen.{chosen, none_willing, unwilling}
use Rattle.lat_laws.proofs.laws.habits.chosen_nodes_are_willing.Goals as goal

pub returns : goal.returns
returns c = record { chosen = chosen; none = none_willing; unwilling = unwilling }
