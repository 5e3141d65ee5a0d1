use Rattle.std.proofs.Common.{ap, subst, ◌∙◌, []}
use Rattle.lat_base.specs.declared.event.Event.TheVariants as events
use Rattle.lat_switch.specs.Lines.{Line}
use Rattle.lat_switch.specs.Stands.{HasDone}
use Rattle.lat_switch.specs.Switch.{relays}
use Rattle.lat_switch.proofs.Courses.{on_shown_line}
use Rattle.lat_switch.proofs.switch.SwitchCore.put_nothing.Goals as goal

pub returns-clause-does : goal.returns-clause-does
returns-clause-does c = λ course h.
    on_shown_line course c.args.self.now c.tell.new.self c.args.line c.shown.result (λ x. events.Put x []) c.tell.result c.args.out.now c.tell.new.out h
    (c.shown.ensures ∙ ap (λ (l : Line). l.shown) c.line_at.ensures)
    (subst (λ b. HasDone (relays (events.Put c.shown.result b) course) c.tell.new.self c.tell.result c.tell.new.out) c.requires.none (c.tell.ensures.does course h))

pub tell-requires-clause-memory : goal.tell-requires-clause-memory
tell-requires-clause-memory c = c.requires.valid.rest.memory
