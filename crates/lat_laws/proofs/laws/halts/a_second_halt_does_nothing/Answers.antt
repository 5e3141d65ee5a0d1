use Rattle.lat_laws.proofs.halts.Once.{server_once, node_once}
use Rattle.lat_laws.proofs.laws.halts.a_second_halt_does_nothing.Goals as goal

pub returns : goal.returns
returns c = record { server = server_once; node = node_once }
