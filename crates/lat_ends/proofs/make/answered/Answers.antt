use Rattle.std.proofs.Common.{sym, ap, ◌∙◌}
use Rattle.lat_circuit.specs.Kept.{Facts}
use Rattle.lat_ends.proofs.make.answered.Goals as goal

pub answer-requires-clause-timing : goal.answer-requires-clause-timing
answer-requires-clause-timing c = c.requires.timing

pub answer-requires-clause-info : goal.answer-requires-clause-info
answer-requires-clause-info c = c.requires.info

pub invariant_of-result : goal.invariant_of-result
invariant_of-result c =
    let begins = c.in_ok-circuit.ensures.begins in
    record { side = begins.side ∙ sym (ap (λ (f : Facts). f.master) begins.is) }
