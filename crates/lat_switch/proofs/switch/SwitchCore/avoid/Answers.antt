use Rattle.std.proofs.Common.{sym, ap, ◌∙◌}
use Rattle.lat_base.specs.declared.event.Event.TheVariants as events
use Rattle.lat_switch.specs.Lines.{Line}
use Rattle.lat_switch.specs.Switch.{Course, line_on, relays}
use Rattle.lat_switch.proofs.Courses.{no_such_line, such_line, on_shown_line, same_itself}
use Rattle.lat_switch.proofs.switch.SwitchCore.avoid.Goals as goal

pub returns-then-not-exists-clause-same : goal.returns-then-not-exists-clause-same
returns-then-not-exists-clause-same c = same_itself c.args.self.now

pub returns-then-not-exists-clause-does : goal.returns-then-not-exists-clause-does
returns-then-not-exists-clause-does c = λ course h. no_such_line course c.args.self.now c.args.line (λ (z : Course). relays (events.Avoid (line_on c.args.line z.state).shown) z) c.args.out.now (sym c.exists.ensures.value ∙ c.if-not-exists.true) h

pub returns-clause-does : goal.returns-clause-does
returns-clause-does c = λ course h.
    such_line course c.args.self.now c.tell.new.self c.args.line (λ (z : Course). relays (events.Avoid (line_on c.args.line z.state).shown) z) c.tell.result c.args.out.now c.tell.new.out (sym c.exists.ensures.value ∙ c.if-not-exists.false) h
    (on_shown_line course c.args.self.now c.tell.new.self c.args.line c.shown.result (λ x. events.Avoid x) c.tell.result c.args.out.now c.tell.new.out h (c.shown.ensures ∙ ap (λ (l : Line). l.shown) c.line_at.ensures) (c.tell.ensures.does course h))

pub tell-requires-clause-memory : goal.tell-requires-clause-memory
tell-requires-clause-memory c = c.requires.valid.rest.memory
