use Rattle.std.proofs.Common.{◌∙◌, subst, sym}
use Rattle.lat_machines.specs.values.Addresses.{address}
use Rattle.lat_circuit.specs.Messages.{message_shown}
use Rattle.lat_node.specs.Events.{Simulates}
use Rattle.lat_node.specs.Hearing.{hears_named}
use Rattle.lat_node.specs.Kept.{Kept}
use Rattle.lat_node.specs.Shown.{shown}
use Rattle.lat_node.specs.Stands.{Stands}
use Rattle.lat_node.proofs.HeardLemmas.{named_does}
use Rattle.lat_lines.specs.circuits.Kept.{HasRooms}
use Rattle.lat_node.proofs.node.NodeCore.hear_named.Goals as goal

pub returns-clause-does : goal.returns-clause-does
returns-clause-does g c =
    let k = shown c.self.inside in
    let from = address c.args.from.0 in
    let m = message_shown c.args.message.now in
    subst (λ (z : Kept g.row.H.Denot). Simulates (λ config s. hears_named config s from m) z c.answer_named.new.self c.hearing_answer.result c.args.out.now c.heard-hearing.new.out) c.self.view_is
    (named_does k c.heard-hearing.new.self c.answer_named.new.self from m c.named-named.result c.hearing_answer.result c.args.out.now c.heard-hearing.new.out
    (record {
      node = c.self.invariant.node;
      names = λ s st. c.named-named.ensures s (subst (λ (z : Kept g.row.H.Denot). Stands z s) c.self.view_is st);
      did = c.heard-hearing.ensures.did;
      answers = λ d st. c.hearing_answer.ensures.value ∙ c.heard-hearing.ensures.answer d st;
      still = c.heard-hearing.ensures.same;
      held = c.heard-hearing.ensures.held;
      asked = c.answer_named.ensures.asked;
    }))

pub heard-hearing-requires-clause-memory : goal.heard-hearing-requires-clause-memory
heard-hearing-requires-clause-memory g c = λ node call.
    subst (λ (z : Kept g.row.H.Denot). HasRooms 1 z.lines.circuits) (sym c.self.view_is) (c.requires.memory call)
