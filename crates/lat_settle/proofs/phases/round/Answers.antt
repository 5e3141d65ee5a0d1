use Rattle.std.proofs.Common.{◌∙◌, ap, Ok, Err, true, false}
use Rattle.std.proofs.lemmas.Result.{err_from_is_err_and}
use Rattle.lat_replay.specs.Kept.{setups_of}
use Rattle.lat_settle.specs.Events.{deliver_events, round_events}
use Rattle.lat_settle.proofs.Along.{stops_so}
use Rattle.lat_settle.proofs.Turns.{frames_stop, frames_tell, lines_so, round_stops, round_tells, setups_same, takes_stop, takes_tell}
use Rattle.lat_settle.proofs.phases.round.Goals as goal

pub returns-in_err-tell_times-clause-tells : goal.returns-in_err-tell_times-clause-tells
returns-in_err-tell_times-clause-tells g c =
    let p = err_from_is_err_and c.from_residual.result c.from_residual.ensures.1 in
    λ s h. stops_so (setups_of c.args.world.now) s (round_events (setups_of c.args.world.now) s) c.in_err-tell_times.field-0.0 c.tell_times.new.world c.from_residual.result (p.1 ∙ ap (λ z. Err z) p.2)
    (round_stops (setups_of c.args.world.now) s c.in_err-tell_times.field-0.0 c.tell_times.new.world (c.in_err-tell_times.ensures.tells s h))

pub returns-in_err-deliver_all-clause-tells : goal.returns-in_err-deliver_all-clause-tells
returns-in_err-deliver_all-clause-tells g c =
    let u = setups_of c.args.world.now in
    let p = err_from_is_err_and c.from_residual-in_err-deliver_all.result c.from_residual-in_err-deliver_all.ensures.1 in
    λ s h. stops_so u s (round_events u s) c.in_err-deliver_all.field-0.0 c.deliver_all.new.world c.from_residual-in_err-deliver_all.result (p.1 ∙ ap (λ z. Err z) p.2)
    (round_tells u s (Err c.in_err-deliver_all.field-0.0) c.tell_times.new.world c.deliver_all.new.world (c.in_ok-tell_times.ensures.tells s h)
    (frames_stop u c.in_err-deliver_all.field-0.0 c.tell_times.new.world c.deliver_all.new.world
    (setups_same u (setups_of c.tell_times.new.world) (λ v. deliver_events v 199745) (Err c.in_err-deliver_all.field-0.0) c.tell_times.new.world c.deliver_all.new.world c.tell_times.ensures.setups c.in_err-deliver_all.ensures.tells)))

pub returns-in_err-take_all-clause-tells : goal.returns-in_err-take_all-clause-tells
returns-in_err-take_all-clause-tells g c =
    let u = setups_of c.args.world.now in
    let p = err_from_is_err_and c.from_residual-in_err-take_all.result c.from_residual-in_err-take_all.ensures.1 in
    let second = c.deliver_all.ensures.setups ∙ c.tell_times.ensures.setups in
    λ s h. stops_so u s (round_events u s) c.in_err-take_all.field-0.0 c.take_all.new.world c.from_residual-in_err-take_all.result (p.1 ∙ ap (λ z. Err z) p.2)
    (round_tells u s (Err c.in_err-take_all.field-0.0) c.tell_times.new.world c.take_all.new.world (c.in_ok-tell_times.ensures.tells s h)
    (frames_tell u (Err c.in_err-take_all.field-0.0) c.tell_times.new.world c.deliver_all.new.world c.take_all.new.world
    (setups_same u (setups_of c.tell_times.new.world) (λ v. deliver_events v 199745) (Ok c.in_ok-deliver_all.field-0) c.tell_times.new.world c.deliver_all.new.world c.tell_times.ensures.setups c.in_ok-deliver_all.ensures.tells)
    (takes_stop u c.in_err-take_all.field-0.0 c.deliver_all.new.world c.take_all.new.world
    (lines_so u (setups_of c.deliver_all.new.world) true c.lines_of-lines.result u.server.lines (Err c.in_err-take_all.field-0.0) c.deliver_all.new.world c.take_all.new.world second (c.lines_of-lines.ensures ∙ ap (λ z. z.server.lines) second) c.in_err-take_all.ensures.tells))))

pub returns-clause-tells : goal.returns-clause-tells
returns-clause-tells g c =
    let u = setups_of c.args.world.now in
    let second = c.deliver_all.ensures.setups ∙ c.tell_times.ensures.setups in
    let third = c.take_all.ensures.setups ∙ second in
    λ s h. round_tells u s c.take_all-2.result c.tell_times.new.world c.take_all-2.new.world (c.in_ok-tell_times.ensures.tells s h)
    (frames_tell u c.take_all-2.result c.tell_times.new.world c.deliver_all.new.world c.take_all-2.new.world
    (setups_same u (setups_of c.tell_times.new.world) (λ v. deliver_events v 199745) (Ok c.in_ok-deliver_all.field-0) c.tell_times.new.world c.deliver_all.new.world c.tell_times.ensures.setups c.in_ok-deliver_all.ensures.tells)
    (takes_tell u c.take_all-2.result c.deliver_all.new.world c.take_all.new.world c.take_all-2.new.world
    (lines_so u (setups_of c.deliver_all.new.world) true c.lines_of-lines.result u.server.lines (Ok c.in_ok-take_all.field-0) c.deliver_all.new.world c.take_all.new.world second (c.lines_of-lines.ensures ∙ ap (λ z. z.server.lines) second) c.in_ok-take_all.ensures.tells)
    (lines_so u (setups_of c.take_all.new.world) false c.lines_of-lines-2.result u.node.lines c.take_all-2.result c.take_all.new.world c.take_all-2.new.world third (c.lines_of-lines-2.ensures ∙ ap (λ z. z.node.lines) third) c.take_all-2.ensures.tells)))
