use Rattle.std.proofs.Common.{is_err, map, sym, ap, ◌∙◌}
use Rattle.lat_stream.specs.Wire.{slot_heard}
use Rattle.lat_circuit.specs.Messages.{wide_head_shown}
use Rattle.lat_circuit.proofs.HeardParts.{then_applies}
use Rattle.lat_circuit.proofs.circuit.Circuit.apply.Goals as goal

pub returns-clause-applies : goal.returns-clause-applies
returns-clause-applies c =
    then_applies (wide_head_shown c.args.head.now) (map slot_heard c.args.slots.now) c.hear_body.result c.args.self.now c.hear_ack.new.self c.hear_body.new.self
    (λ e st. sym (c.hear_ack.ensures.answer e st) ∙ ap is_err c.in_ok-hear_ack.was)
    c.hear_ack.ensures.state
    c.hear_body.ensures.applies
