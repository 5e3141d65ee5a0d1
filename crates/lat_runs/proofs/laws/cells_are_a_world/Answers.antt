use Rattle.lat_runs.proofs.Worlds.{world}
use Rattle.lat_runs.proofs.laws.cells_are_a_world.Goals as goal

pub returns-clause-node : goal.returns-clause-node
returns-clause-node g c = world

pub returns-clause-tariff : goal.returns-clause-tariff
returns-clause-tariff g c = world
