use Rattle.std.proofs.Common.{true, false, sym, ◌∙◌}
use Rattle.lat_base.specs.declared.event.Event.TheVariants as events
use Rattle.lat_lines.specs.Answers as lines
use Rattle.lat_switch.specs.Switch.{tells}
use Rattle.lat_switch.proofs.Courses.{connect_is_plain, connected_at, exists_still, inner_stays, same_then}
use Rattle.lat_switch.proofs.switch.SwitchCore.connect_at.Goals as goal

pub show-requires-clause-line : goal.show-requires-clause-line
show-requires-clause-line c = exists_still c.args.self.now c.tell-answer.new.self c.args.line c.tell-answer.ensures.same c.requires.line

pub show-requires-clause-inner : goal.show-requires-clause-inner
show-requires-clause-inner c = inner_stays c.args.self.now c.tell-answer.new.self c.args.line c.args.inner_line c.tell-answer.ensures.same c.requires.inner

pub returns-then-not-is_connected-clause-does : goal.returns-then-not-is_connected-clause-does
returns-then-not-is_connected-clause-does c = λ course h.
    let d = c.tell-answer.ensures.does course h in
    connected_at c.args.line c.args.inner_line c.args.service.now course c.tell-answer.new.self c.tell-answer.new.self c.tell-answer.result c.tell-answer.new.out false (sym c.is_connected.ensures ∙ c.if-not-is_connected.true) (c.tell-answer.ensures.does course h) d.course

pub returns-then-not-is_connected-clause-plain : goal.returns-then-not-is_connected-clause-plain
returns-then-not-is_connected-clause-plain c = connect_is_plain c.tell-answer.result c.args.inner_line c.args.service.now (lines.ready c.args.self.now.inner.lines) c.tell-answer.ensures.put c.tell-answer.ensures.took

pub returns-clause-same : goal.returns-clause-same
returns-clause-same c = same_then c.args.self.now c.tell-answer.new.self c.show.new.self c.tell-answer.ensures.same c.show.ensures.same

pub returns-clause-does : goal.returns-clause-does
returns-clause-does c = λ course h.
    let d = c.tell-answer.ensures.does course h in
    connected_at c.args.line c.args.inner_line c.args.service.now course c.tell-answer.new.self c.show.new.self c.tell-answer.result c.tell-answer.new.out true (sym c.is_connected.ensures ∙ c.if-not-is_connected.false) d
    (c.show.ensures.does c.tell-answer.new.out (tells (events.Connect c.args.inner_line c.args.service.now) course) d.course)

pub returns-clause-plain : goal.returns-clause-plain
returns-clause-plain c = connect_is_plain c.tell-answer.result c.args.inner_line c.args.service.now (lines.ready c.args.self.now.inner.lines) c.tell-answer.ensures.put c.tell-answer.ensures.took
