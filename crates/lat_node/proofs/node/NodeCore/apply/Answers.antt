use Rattle.std.proofs.Common.{◌∙◌, None, ap, sym}
use Rattle.lat_machines.specs.values.Addresses.{address}
use Rattle.lat_machines.specs.values.Events.{Hears, Requests, Halts}
use Rattle.lat_payload.specs.Reads.{reading_of}
use Rattle.lat_lines.specs.Events.{event_shown}
use Rattle.lat_node.specs.Shown.{shown}
use Rattle.lat_node.proofs.Applying.{steps_event, steps_does, steps_take, steps_announced, act_of}
use Rattle.lat_node.proofs.FrameLemmas.{steps_quiet, act_quiet}
use Rattle.lat_node.proofs.node.NodeCore.apply.Goals as goal

pub returns-in-Heard-clause-steps : goal.returns-in-Heard-clause-steps
returns-in-Heard-clause-steps g c =
    steps_event _ c.args.self.now c.hear.new.self c.args.event.now (Hears (address c.in-Heard.from.0) (reading_of c.as_slice.result.now) None c.in-Heard.now) c.hear.result c.args.out.now c.hear.new.out
    (ap event_shown c.in-Heard.is ∙ ap (λ p. Hears (address c.in-Heard.from.0) (reading_of p) None c.in-Heard.now) (sym c.as_slice.ensures)) c.hear.ensures.steps

pub returns-in-Take-clause-steps : goal.returns-in-Take-clause-steps
returns-in-Take-clause-steps g c =
    steps_take _ (shown c.self.inside) c.args.self.now c.take.new.self c.args.event.now c.in-Take.line c.in-Take.n c.take.result c.args.out.now c.self.view_is c.self.invariant.node (ap event_shown c.in-Take.is) c.take.ensures.says

pub returns-in-Request-clause-steps : goal.returns-in-Request-clause-steps
returns-in-Request-clause-steps g c =
    steps_does _ c.args.self.now c.request.new.self c.args.event.now (Requests (address c.in-Request.to.0) c.in-Request.id c.in-Request.service) c.request.result c.args.out.now c.request.new.out (ap event_shown c.in-Request.is) tt c.request.ensures.does

pub returns-in-Announce-clause-steps : goal.returns-in-Announce-clause-steps
returns-in-Announce-clause-steps g c =
    steps_announced _ c.args.self.now c.args.event.now c.announce.result c.args.out.now c.announce.new.out (ap event_shown c.in-Announce.is) c.announce.ensures.answer c.announce.ensures.frames

pub returns-in-Halt-clause-steps : goal.returns-in-Halt-clause-steps
returns-in-Halt-clause-steps g c =
    steps_does _ c.args.self.now c.halt.new.self c.args.event.now Halts c.halt.result c.args.out.now c.halt.new.out (ap event_shown c.in-Halt.is) tt c.halt.ensures.does

pub act-requires-clause-act : goal.act-requires-clause-act
act-requires-clause-act g c = act_of c.args.event.now c.in_default.not-Heard c.in_default.not-Take c.in_default.not-Request c.in_default.not-Announce c.in_default.not-Halt

pub returns-in_default-clause-steps : goal.returns-in_default-clause-steps
returns-in_default-clause-steps g c =
    steps_quiet _ c.args.self.now c.act.new.self (event_shown c.args.event.now) c.act.result c.args.out.now c.act.new.out
    (act_quiet c.args.event.now (act_of c.args.event.now c.in_default.not-Heard c.in_default.not-Take c.in_default.not-Request c.in_default.not-Announce c.in_default.not-Halt)) c.act.ensures.does
