use Rattle.std.proofs.Common.{sym, ap, ◌∙◌}
use Rattle.lat_base.specs.declared.event.Event.TheVariants as events
use Rattle.lat_switch.specs.Lines.{Line}
use Rattle.lat_switch.specs.Switch.{Course, line_on, relays}
use Rattle.lat_switch.proofs.Courses.{no_such_line, same_itself}
use Rattle.lat_switch.proofs.Lined.{taken, took_shown}
use Rattle.lat_switch.proofs.switch.SwitchCore.take.Goals as goal

pub returns-then-not-exists-clause-same : goal.returns-then-not-exists-clause-same
returns-then-not-exists-clause-same c = same_itself c.args.self.now

pub returns-then-not-exists-clause-does : goal.returns-then-not-exists-clause-does
returns-then-not-exists-clause-does c = λ course h. no_such_line course c.args.self.now c.args.line (λ (z : Course). relays (events.Take (line_on c.args.line z.state).shown c.args.n) z) c.args.out.now (sym c.exists.ensures.value ∙ c.if-not-exists.true) h

pub returns-clause-does : goal.returns-clause-does
returns-clause-does c = taken c.args.line c.shown.result c.args.n c.args.self.now c.pass.new.self c.args.out.now c.pass.new.out c.pass.result (sym c.exists.ensures.value ∙ c.if-not-exists.false) (c.shown.ensures ∙ ap (λ (l : Line). l.shown) c.line_at.ensures) c.pass.ensures.does

pub returns-clause-took : goal.returns-clause-took
returns-clause-took c = took_shown c.args.self.now c.args.line c.shown.result c.args.n c.pass.result (sym c.exists.ensures.value ∙ c.if-not-exists.false) (c.shown.ensures ∙ ap (λ (l : Line). l.shown) c.line_at.ensures) c.pass.ensures.took
