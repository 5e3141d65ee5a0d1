use Rattle.std.proofs.Common.{◌≡◌, ◌∙◌, Err, ap, not, subst, sym, true, is_some, slice_get, arith}
use Rattle.std.proofs.lemmas.Result.{err_from_is_err_and}
use Rattle.std.proofs.lemmas.Grind.{common_steps}
use Rattle.lat_base.specs.declared.event.Event.{Event}
use Rattle.lat_base.specs.declared.event.Event.TheVariants as events
use Rattle.lat_machines.specs.values.Addresses.{address}
use Rattle.lat_machines.specs.world.Machines.{tell}
use Rattle.lat_machines.specs.world.Young.{head_of}
use Rattle.lat_lines.specs.Events.{event_shown}
use Rattle.lat_wire.specs.Kept.{setups_of}
use Rattle.lat_wire.specs.Rates.{rates}
use Rattle.lat_wire.specs.Refusals.{MarksRun, RefusedAs, full, no_frame, old, old_run}
use Rattle.lat_wire.specs.Stands.{Mirrors}
use Rattle.lat_wire.specs.Told.{IsSent, answered}
use Rattle.lat_wire.proofs.Refusing.{last_of, same_fault}
use Rattle.lat_wire.proofs.Standing.{frame_answers, frame_stands, marks_run, nobody_answers, nobody_stands, old_nobody, old_other}
use Rattle.lat_wire.proofs.wire.Wire.deliver.Goals as goal

pub returns-then-is_none-clause-stands : goal.returns-then-is_none-clause-stands
returns-then-is_none-clause-stands g c = λ w s.
    nobody_stands c.args.self.now c.pass_by.new.self w c.args.index c.args.self.now.moment c.in_ok-sent.sent (c.in_ok-sent.ensures.ok w s.parts) (c.is_none.ensures ∙ ap not c.if-is_none.true) c.in_ok-pass_by.ensures.setups (c.in_ok-pass_by.ensures.mirrors w s.parts) s

pub returns-then-is_none-clause-answer : goal.returns-then-is_none-clause-answer
returns-then-is_none-clause-answer g c = λ w s.
    nobody_answers c.args.self.now w c.args.index c.args.self.now.moment c.in_ok-sent.sent (c.in_ok-sent.ensures.ok w s.parts) (c.is_none.ensures ∙ ap not c.if-is_none.true)

pub returns-then-is_none-clause-refused : goal.returns-then-is_none-clause-refused
returns-then-is_none-clause-refused g c = λ w s.
    last_of (full w) (no_frame w c.args.index) (old (setups_of c.args.self.now) w (slice_get w.posts c.args.index)) (c.in_ok-may_step.ensures.refused w s.parts) (c.in_ok-sent.ensures.refused w s.parts)
    ∙ old_nobody (setups_of c.args.self.now) w c.args.index c.in_ok-sent.sent (c.in_ok-sent.ensures.ok w s.parts) (c.is_none.ensures ∙ ap not c.if-is_none.true)

pub returns-in_err-is_young-clause-refused : goal.returns-in_err-is_young-clause-refused
returns-in_err-is_young-clause-refused g c = λ w s.
    let p = err_from_is_err_and c.from_residual-in_err-is_young.result c.from_residual-in_err-is_young.ensures.1 in
    let some : is_some c.in_ok-sent.sent.turn ≡ true = c.is_none.ensures ∙ ap not c.if-is_none.false in
    let q : IsSent (setups_of c.args.self.now) w c.args.index c.in_ok-sent.sent = c.in_ok-sent.ensures.ok w s.parts in
    let marks : MarksRun q.post.frame = marks_run c.args.self.now w c.args.index q.post s q.there (sym q.for_other ∙ some) in
    subst (RefusedAs c.from_residual-in_err-is_young.result)
    (sym (last_of (full w) (no_frame w c.args.index) (old (setups_of c.args.self.now) w (slice_get w.posts c.args.index)) (c.in_ok-may_step.ensures.refused w s.parts) (c.in_ok-sent.ensures.refused w s.parts)
    ∙ old_other (setups_of c.args.self.now) w c.args.index c.in_ok-sent.sent q some))
    (same_fault (Unit {0}) c.from_residual-in_err-is_young.result (old_run (setups_of c.args.self.now) w q.post (head_of q.post.frame.value)) c.in_err-is_young.field-0.0 (p.1 ∙ ap (λ z. Err z) p.2) (c.in_err-is_young.ensures w q.post s.parts q.is marks))

pub returns-clause-stands : goal.returns-clause-stands
returns-clause-stands g c = λ w s.
    let some : is_some c.in_ok-sent.sent.turn ≡ true = c.is_none.ensures ∙ ap not c.if-is_none.false in
    let q : IsSent (setups_of c.args.self.now) w c.args.index c.in_ok-sent.sent = c.in_ok-sent.ensures.ok w s.parts in
    let marks : MarksRun q.post.frame = marks_run c.args.self.now w c.args.index q.post s q.there (sym q.for_other ∙ some) in
    let event : c.in_ok-event.event ≡ events.Heard c.own.result c.in_ok-sent.sent.post.frame.payload.now c.args.self.now.moment = c.in_ok-event.ensures in
    frame_stands c.args.self.now c.tell.new.self c.come.new.self w c.args.index c.args.self.now.moment (address c.own.result.0) c.in_ok-sent.sent q some c.own.ensures (c.in_ok-is_young.ensures w q.post s.parts q.is marks) (c.come.ensures.setups ∙ c.in_ok-answer.ensures.setups)
    (λ m r. subst (λ (e : Event). Mirrors c.tell.new.self (tell (setups_of c.args.self.now) w (not c.in_ok-sent.sent.post.by_server) (event_shown e) (rates (setups_of c.args.self.now) w))) event (c.in_ok-answer.ensures.mirrors w m r))
    (λ v m. c.come.ensures.mirrors v m)
    s

pub returns-clause-answer : goal.returns-clause-answer
returns-clause-answer g c = λ w s.
    let some : is_some c.in_ok-sent.sent.turn ≡ true = c.is_none.ensures ∙ ap not c.if-is_none.false in
    let q : IsSent (setups_of c.args.self.now) w c.args.index c.in_ok-sent.sent = c.in_ok-sent.ensures.ok w s.parts in
    let marks : MarksRun q.post.frame = marks_run c.args.self.now w c.args.index q.post s q.there (sym q.for_other ∙ some) in
    let event : c.in_ok-event.event ≡ events.Heard c.own.result c.in_ok-sent.sent.post.frame.payload.now c.args.self.now.moment = c.in_ok-event.ensures in
    frame_answers c.args.self.now w c.args.index c.args.self.now.moment (address c.own.result.0) c.in_ok-sent.sent c.in_ok-answer.answer q some c.own.ensures (c.in_ok-is_young.ensures w q.post s.parts q.is marks)
    (c.in_ok-answer.ensures.answer w s.parts ∙ ap (λ (e : Event). answered (setups_of c.args.self.now) w (not c.in_ok-sent.sent.post.by_server) (event_shown e)) event)
    s

pub returns-clause-refused : goal.returns-clause-refused
returns-clause-refused g c = λ w s.
    let some : is_some c.in_ok-sent.sent.turn ≡ true = c.is_none.ensures ∙ ap not c.if-is_none.false in
    let q : IsSent (setups_of c.args.self.now) w c.args.index c.in_ok-sent.sent = c.in_ok-sent.ensures.ok w s.parts in
    let marks : MarksRun q.post.frame = marks_run c.args.self.now w c.args.index q.post s q.there (sym q.for_other ∙ some) in
    last_of (full w) (no_frame w c.args.index) (old (setups_of c.args.self.now) w (slice_get w.posts c.args.index)) (c.in_ok-may_step.ensures.refused w s.parts) (c.in_ok-sent.ensures.refused w s.parts)
    ∙ (old_other (setups_of c.args.self.now) w c.args.index c.in_ok-sent.sent q some ∙ c.in_ok-is_young.ensures w q.post s.parts q.is marks)

pub come-requires-clause-there : goal.come-requires-clause-there
come-requires-clause-there c = grind (arith, common_steps)
