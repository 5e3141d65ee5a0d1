use Rattle.lat_session.specs.Table.{SameEnd}
use Rattle.lat_circuit.proofs.HeardRun.{SoFar}
use Rattle.lat_circuit.proofs.heard_run.hear_slots.Given as goal

abbrev pub invariant-loop-slot : goal.invariant-loop-slot
invariant-loop-slot l = record {
  so_far : SoFar l.initial.sessions l.slots l.slot-index l.sessions;
  same : SameEnd l.initial.sessions l.sessions;
}
