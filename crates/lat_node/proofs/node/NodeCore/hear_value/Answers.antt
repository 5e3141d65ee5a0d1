use Rattle.std.proofs.Common.{◌∙◌, ap, get_or, sym, Fits, w8, None, rules, arith}
use Rattle.lat_machines.specs.cores.Cores.{at_moment}
use Rattle.lat_machines.specs.node.Node.{with_core, hears_message}
use Rattle.lat_machines.specs.values.Addresses.{address}
use Rattle.lat_circuit.specs.Messages.{message_shown}
use Rattle.lat_payload.specs.Reads.{value_shown}
use Rattle.lat_payload.proofs.Addresses.{IsStation}
use Rattle.lat_payload.proofs.Everyone.{everyone_is}
use Rattle.lat_node.proofs.HearLemmas.{steps_everyone, steps_message}
use Rattle.lat_node.proofs.MemoryLemmas.{does_reserved}
use Rattle.lat_node.proofs.node.NodeCore.hear_value.Goals as goal

pub returns-then-is_everyone-clause-steps : goal.returns-then-is_everyone-clause-steps
returns-then-is_everyone-clause-steps g c =
    steps_everyone _ c.args.self.now c.pass.new.self (address c.args.from.0) c.args.now (value_shown c.args.value.now) c.args.out.now (sym (everyone_is c.args.from.0 (search rules)) ∙ sym c.if-is_everyone.ensures) c.pass.ensures.state

pub returns-in_ok-reserve_for-in-Circuit-clause-steps : goal.returns-in_ok-reserve_for-in-Circuit-clause-steps
returns-in_ok-reserve_for-in-Circuit-clause-steps g c =
    let from : IsStation c.args.from.0 = record { long = omega arith; small = λ i. let f : Fits w8 (get_or c.args.from.0 i 0) = search rules in f.fits } in
    steps_message _ c.args.self.now c.hear_message.new.self (address c.args.from.0) c.args.now (value_shown c.args.value.now) (message_shown c.in-Circuit.message) c.hear_message.result c.args.out.now c.hear_message.new.out
    (ap value_shown c.in-Circuit.is) (sym (everyone_is c.args.from.0 from) ∙ sym c.if-is_everyone.ensures)
    (does_reserved (λ config s. hears_message config (with_core s (at_moment c.args.now s.core)) (address c.args.from.0) (message_shown c.in-Circuit.message) None) c.args.self.now c.reserve_for.new.self c.hear_message.new.self c.hear_message.result c.args.out.now c.hear_message.new.out c.reserve_for.ensures.state c.reserve_for.ensures.same c.hear_message.ensures.does)

pub hear_notice-requires-clause-apart : goal.hear_notice-requires-clause-apart
hear_notice-requires-clause-apart g c =
    let from : IsStation c.args.from.0 = record { long = omega arith; small = λ i. let f : Fits w8 (get_or c.args.from.0 i 0) = search rules in f.fits } in
    sym (everyone_is c.args.from.0 from) ∙ sym c.if-is_everyone.ensures
