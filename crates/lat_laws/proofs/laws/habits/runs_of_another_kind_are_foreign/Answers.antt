use Rattle.lat_laws.proofs.habits.Foreign.{server_foreign, node_foreign}
use Rattle.lat_laws.proofs.laws.habits.runs_of_another_kind_are_foreign.Goals as goal

pub returns : goal.returns
returns c = record { server = server_foreign; node = node_foreign }
