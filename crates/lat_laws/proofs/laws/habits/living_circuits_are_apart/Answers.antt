use Rattle.lat_laws.proofs.habits.Circuits.{server_apart, node_apart}
use Rattle.lat_laws.proofs.laws.habits.living_circuits_are_apart.Goals as goal

pub returns : goal.returns
returns c = record { server = server_apart; node = node_apart }
