use Rattle.std.proofs.Common.{◌∙◌, sym, ap, subst}
use Rattle.lat_machines.specs.node.Node.{turns_away}
use Rattle.lat_machines.specs.values.Addresses.{address}
use Rattle.lat_base.specs.declared.answer.Answer.TheVariants as answers
use Rattle.lat_circuit.specs.Messages.{message_shown}
use Rattle.lat_node.specs.Events.{Simulates}
use Rattle.lat_node.specs.Kept.{Kept}
use Rattle.lat_node.specs.Shown.{shown}
use Rattle.lat_node.proofs.HeardLemmas.{halted_does, turned_does, started_does}
use Rattle.lat_node.proofs.StepLemmas.{with_lines}
use Rattle.lat_node.proofs.node.NodeCore.hear_start.Goals as goal

pub returns-then-self-clause-does : goal.returns-then-self-clause-does
returns-then-self-clause-does g c =
    let k = shown c.self.inside in
    halted_does c.args.self.now (with_lines k c.turn_away.new.self) (address c.args.from.0) c.args.source (message_shown c.args.message.now) answers.StartRefused c.args.out.now c.turn_away.new.out
    c.requires.start (sym (ap (λ (z : Kept g.row.H.Denot). z.halted) c.self.view_is) ∙ c.if-self.true)
    (subst (λ (z : Kept g.row.H.Denot). Simulates (λ config s. turns_away config s (address c.args.from.0) c.args.source) z (with_lines k c.turn_away.new.self) answers.StartRefused c.args.out.now c.turn_away.new.out) c.self.view_is
    (turned_does k c.turn_away.new.self (address c.args.from.0) c.args.source c.args.out.now c.turn_away.new.out c.self.invariant.node c.turn_away.ensures.did))

pub returns-clause-does : goal.returns-clause-does
returns-clause-does g c =
    started_does c.args.self.now c.make_way.new.self c.hear_named.new.self (address c.args.from.0) c.args.source (message_shown c.args.message.now) c.hear_named.result c.args.out.now c.hear_named.new.out
    c.requires.start (sym (ap (λ (z : Kept g.row.H.Denot). z.halted) c.self.view_is) ∙ c.if-self.false) c.make_way.ensures.state c.make_way.ensures.same c.hear_named.ensures.does

pub hear_named-requires-clause-memory : goal.hear_named-requires-clause-memory
hear_named-requires-clause-memory g c = λ call.
    c.make_way.ensures.memory (c.requires.memory (sym (ap (λ (z : Kept g.row.H.Denot). z.halted) c.self.view_is) ∙ c.if-self.false))
