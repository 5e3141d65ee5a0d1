use Rattle.lat_laws.proofs.halts.Dead.{server_is_dead, node_is_dead}
use Rattle.lat_laws.proofs.halts.Stays.{server_stays, node_stays}
use Rattle.lat_laws.proofs.laws.halts.halted_machines_have_no_circuit.Goals as goal

pub returns : goal.returns
returns c = record { server = server_is_dead; node = node_is_dead; server_stays = server_stays; node_stays = node_stays }
