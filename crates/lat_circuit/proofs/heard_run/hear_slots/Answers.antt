use Rattle.std.proofs.Common.{sym, ◌∙◌, arith}
use Rattle.lat_circuit.proofs.HeardRun.{so_far_more, so_far_bad, so_far_all}
use Rattle.lat_circuit.proofs.heard_run.hear_slots.Goals as goal

pub returns-then-is_err-clause-state : goal.returns-then-is_err-clause-state
returns-then-is_err-clause-state c =
    (so_far_bad c.args.sessions.now c.loop-slot.sessions c.heard_slot.new.self c.args.slots.now c.loop-slot.slot-index c.slot-item.result c.heard_slot.result
    c.loop-slot-test.true c.slot-item.is (sym c.is_err.ensures.value ∙ c.if-is_err.true) c.heard_slot.ensures.hears c.heard_slot.ensures.err c.loop-slot.invariant.so_far).state

pub returns-then-is_err-clause-answer : goal.returns-then-is_err-clause-answer
returns-then-is_err-clause-answer c =
    (so_far_bad c.args.sessions.now c.loop-slot.sessions c.heard_slot.new.self c.args.slots.now c.loop-slot.slot-index c.slot-item.result c.heard_slot.result
    c.loop-slot-test.true c.slot-item.is (sym c.is_err.ensures.value ∙ c.if-is_err.true) c.heard_slot.ensures.hears c.heard_slot.ensures.err c.loop-slot.invariant.so_far).answer

pub loop-slot-preserved : goal.loop-slot-preserved
loop-slot-preserved c = record {
  so_far = so_far_more c.args.sessions.now c.loop-slot.sessions c.heard_slot.new.self c.args.slots.now c.loop-slot.slot-index c.slot-item.result c.heard_slot.result
      c.loop-slot-test.true c.slot-item.is (sym c.is_err.ensures.value ∙ c.if-is_err.false) c.heard_slot.ensures.hears c.loop-slot.invariant.so_far;
  same = (
    c.heard_slot.ensures.same.0 ∙ c.loop-slot.invariant.same.0,
    c.heard_slot.ensures.same.1 ∙ c.loop-slot.invariant.same.1,
    c.heard_slot.ensures.same.2 ∙ c.loop-slot.invariant.same.2,
  );
}

pub returns-clause-state : goal.returns-clause-state
returns-clause-state c =
    (so_far_all c.args.sessions.now c.loop-slot.sessions c.args.slots.now c.loop-slot.slot-index (omega arith) c.loop-slot.invariant.so_far).state

pub returns-clause-answer : goal.returns-clause-answer
returns-clause-answer c =
    (so_far_all c.args.sessions.now c.loop-slot.sessions c.args.slots.now c.loop-slot.slot-index (omega arith) c.loop-slot.invariant.so_far).answer
