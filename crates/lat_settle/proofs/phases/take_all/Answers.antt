use Rattle.std.proofs.Common.{◌+◌, ◌∙◌, ap, refl, add-one, Ok, Err}
use Rattle.std.proofs.lemmas.Result.{err_from_is_err_and}
use Rattle.lat_model.specs.Lists.{upwards}
use Rattle.lat_replay.specs.Kept.{setups_of}
use Rattle.lat_settle.specs.Events.{take_events}
use Rattle.lat_settle.proofs.Along.{stops_so}
use Rattle.lat_settle.proofs.Turns.{line_so, taking_all, taking_more, taking_none, taking_stops}
use Rattle.lat_settle.proofs.phases.take_all.Goals as goal

pub loop-place-init : goal.loop-place-init
loop-place-init g c = record {
  setups = refl;
  moment = refl;
  takes = λ s h. taking_none (setups_of c.args.world.now) s c.args.server c.args.lines c.args.world.now h;
}

pub returns-in_err-take-clause-tells : goal.returns-in_err-take-clause-tells
returns-in_err-take-clause-tells g c =
    let p = err_from_is_err_and c.from_residual.result c.from_residual.ensures.1 in
    λ s h. stops_so (setups_of c.args.world.now) s (take_events (setups_of c.args.world.now) c.args.server (upwards 0 c.args.lines) s) c.in_err-take.field-0.0 c.take.new.world c.from_residual.result (p.1 ∙ ap (λ z. Err z) p.2)
    (taking_stops (setups_of c.args.world.now) s c.args.server c.args.lines c.loop-place.place c.in_err-take.field-0.0 c.loop-place.world c.take.new.world c.loop-place-test.true
    (line_so (setups_of c.args.world.now) (setups_of c.loop-place.world) c.args.server c.loop-place.place (c.loop-place.place + 1) (Err c.in_err-take.field-0.0) c.loop-place.world c.take.new.world c.loop-place.invariant.setups (add-one c.loop-place.place) c.in_err-take.ensures.tells)
    (c.loop-place.invariant.takes s h))

pub loop-place-preserved : goal.loop-place-preserved
loop-place-preserved g c = record {
  setups = c.take.ensures.setups ∙ c.loop-place.invariant.setups;
  moment = c.in_ok-take.ensures.moment ∙ c.loop-place.invariant.moment;
  takes = λ s h.
      taking_more (setups_of c.args.world.now) s c.args.server c.args.lines c.loop-place.place (c.loop-place.place + 1) c.loop-place.world c.take.new.world (add-one c.loop-place.place) c.loop-place-test.true
      (line_so (setups_of c.args.world.now) (setups_of c.loop-place.world) c.args.server c.loop-place.place (c.loop-place.place + 1) (Ok c.in_ok-take.field-0) c.loop-place.world c.take.new.world c.loop-place.invariant.setups (add-one c.loop-place.place) c.in_ok-take.ensures.tells)
      (c.loop-place.invariant.takes s h);
}

pub returns-clause-tells : goal.returns-clause-tells
returns-clause-tells g c = λ s h. taking_all (setups_of c.args.world.now) s c.args.server c.args.lines c.loop-place.place c.loop-place.world c.loop-place-test.false (c.loop-place.invariant.takes s h)
