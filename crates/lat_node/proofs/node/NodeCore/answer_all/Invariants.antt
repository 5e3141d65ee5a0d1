use Rattle.std.proofs.Common.{◌≡◌, ◌-◌, true}
use Rattle.lat_model.specs.Lists.{upwards}
use Rattle.lat_model.specs.ends.End.{lives}
use Rattle.lat_machines.specs.node.Node.{Node, answers_in}
use Rattle.lat_node.specs.Kept.{SameConfig, config_of}
use Rattle.lat_node.specs.Stands.{Stands}
use Rattle.lat_node.proofs.node.NodeCore.answer_all.Given as goal

-- those with lower ids are answered
abbrev pub invariant-loop-id : goal.invariant-loop-id
invariant-loop-id g l = record {
  state : (s : Node) → Stands l.initial.self s → lives (s.core.circuits.circuit_at l.circuit).end ≡ true → Stands l.self (answers_in (config_of l.initial.self) l.circuit (upwards 0 (l.id - 1)) s);
  same : SameConfig l.initial.self l.self;
}
