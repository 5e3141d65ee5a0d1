use Rattle.std.proofs.Common.{◌+◌, ◌∷◌, [], ◌∙◌, ap, Err, false}
use Rattle.std.proofs.lemmas.Result.{err_from_is_err_and}
use Rattle.lat_replay.specs.Kept.{moment_of, setups_of}
use Rattle.lat_laws.specs.rounds.Rounds.{next_moment}
use Rattle.lat_settle.specs.Events.{tell_time, time_events}
use Rattle.lat_settle.proofs.Along.{stops_so}
use Rattle.lat_settle.proofs.Turns.{now_is, setups_same, time_stops, time_tells}
use Rattle.lat_settle.proofs.phases.tell_times.Goals as goal

pub returns-in_err-tell-clause-tells : goal.returns-in_err-tell-clause-tells
returns-in_err-tell-clause-tells g c =
    let p = err_from_is_err_and c.from_residual.result c.from_residual.ensures.1 in
    λ s h. stops_so (setups_of c.args.world.now) s (time_events (next_moment (setups_of c.args.world.now) s.moment)) c.in_err-tell.field-0.0 c.tell.new.world c.from_residual.result (p.1 ∙ ap (λ z. Err z) p.2)
    (time_stops (setups_of c.args.world.now) s (c.moment.result + c.timer.result) c.in_err-tell.field-0.0 c.tell.new.world
    (now_is (setups_of c.args.world.now) (moment_of c.args.world.now) c.moment.result c.timer.result s.moment c.moment.ensures c.timer.ensures h.moment)
    (c.in_err-tell.ensures.tells s h))

pub returns-clause-tells : goal.returns-clause-tells
returns-clause-tells g c = λ s h.
    time_tells (setups_of c.args.world.now) s (c.moment.result + c.timer.result) c.tell-2.result c.tell.new.world c.tell-2.new.world
    (now_is (setups_of c.args.world.now) (moment_of c.args.world.now) c.moment.result c.timer.result s.moment c.moment.ensures c.timer.ensures h.moment)
    (c.in_ok-tell.ensures.tells s h)
    (setups_same (setups_of c.args.world.now) (setups_of c.tell.new.world) (λ u t. tell_time false (c.moment.result + c.timer.result) ∷ []) c.tell-2.result c.tell.new.world c.tell-2.new.world c.tell.ensures.setups c.tell-2.ensures.tells)
