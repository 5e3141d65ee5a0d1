use Rattle.lat_laws.proofs.halts.Idle.{node_turns_away, node_makes_none, node_announces_nothing}
use Rattle.lat_laws.proofs.laws.halts.halted_nodes_begin_nothing.Goals as goal

pub returns : goal.returns
returns c = record { away = node_turns_away; makes = node_makes_none; announces = node_announces_nothing }
