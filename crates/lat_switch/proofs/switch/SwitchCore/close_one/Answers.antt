use Rattle.std.proofs.Common.{sym, subst, ◌∙◌}
use Rattle.lat_server.specs.Stands.{IsMachine}
use Rattle.lat_switch.specs.Kept.{Kept}
use Rattle.lat_switch.proofs.Courses.{passed_over, closed_one, same_itself}
use Rattle.lat_switch.proofs.switch.SwitchCore.close_one.Goals as goal

pub returns-then-not-has_session-clause-does : goal.returns-then-not-has_session-clause-does
returns-then-not-has_session-clause-does c = λ t h.
    let st : IsMachine c.self.inside.inner t.course.state.inner = subst (λ (z : Kept). IsMachine z.inner t.course.state.inner) (sym c.self.view_is) h.course.state.inner in
    passed_over t c.args.inner_line c.args.self.now c.args.before c.args.out.now (sym (c.has_session.ensures t.course.state.inner st) ∙ c.if-not-has_session.true) h

pub returns-then-not-has_session-clause-same : goal.returns-then-not-has_session-clause-same
returns-then-not-has_session-clause-same c = same_itself c.args.self.now

pub returns-clause-does : goal.returns-clause-does
returns-clause-does c = λ t h.
    let st : IsMachine c.self.inside.inner t.course.state.inner = subst (λ (z : Kept). IsMachine z.inner t.course.state.inner) (sym c.self.view_is) h.course.state.inner in
    closed_one t c.args.inner_line c.args.self.now c.tell-answer.new.self c.args.before c.tell-answer.result c.either_done.result c.args.out.now c.tell-answer.new.out
    (sym (c.has_session.ensures t.course.state.inner st) ∙ c.if-not-has_session.false) h (c.tell-answer.ensures.does t.course h.course) c.either_done.ensures.value

pub returns-clause-quiet : goal.returns-clause-quiet
returns-clause-quiet c = c.tell-answer.ensures.quiet tt

pub tell-answer-requires-clause-memory : goal.tell-answer-requires-clause-memory
tell-answer-requires-clause-memory c = c.requires.valid.rest.memory
