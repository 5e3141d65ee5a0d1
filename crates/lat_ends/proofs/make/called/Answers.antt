use Rattle.std.proofs.Common.{sym, ap, ◌∙◌}
use Rattle.lat_circuit.specs.Kept.{Facts}
use Rattle.lat_ends.proofs.make.called.Goals as goal

pub call-requires-clause-timing : goal.call-requires-clause-timing
call-requires-clause-timing c = c.requires.timing

pub invariant_of-result : goal.invariant_of-result
invariant_of-result c =
    let begins = c.in_ok-circuit.ensures.begins in
    record { side = begins.side ∙ sym (ap (λ (f : Facts). f.master) begins.is) }
