use Rattle.std.proofs.Common.{◌+◌, ◌∷◌, [], ◌∙◌, ap, refl, add-one, Some, None, Ok, Err}
use Rattle.std.proofs.lemmas.Result.{err_from_is_err_and}
use Rattle.lat_replay.specs.Kept.{setups_of}
use Rattle.lat_schedule.specs.declared.event.WorldEvent.TheVariants.{Deliver}
use Rattle.lat_settle.specs.Events.{deliver_events}
use Rattle.lat_settle.proofs.Along.{stops_so}
use Rattle.lat_settle.proofs.Turns.{delivering_all, delivering_more, delivering_most, delivering_none, delivering_stops, found_so, setups_same}
use Rattle.lat_settle.proofs.phases.deliver_all.Goals as goal

pub loop-init : goal.loop-init
loop-init g c = record {
  setups = refl;
  moment = refl;
  delivers = λ s h. delivering_none (setups_of c.args.world.now) s c.args.world.now h;
}

pub returns-in_err-tell-in-Some-clause-tells : goal.returns-in_err-tell-in-Some-clause-tells
returns-in_err-tell-in-Some-clause-tells g c =
    let p = err_from_is_err_and c.from_residual.result c.from_residual.ensures.1 in
    λ s h. stops_so (setups_of c.args.world.now) s (deliver_events (setups_of c.args.world.now) 199745 s) c.in_err-tell-in-Some.field-0.0 c.tell.new.world c.from_residual.result (p.1 ∙ ap (λ z. Err z) p.2)
    (delivering_stops (setups_of c.args.world.now) s c.loop.counter c.in-Some.index c.in_err-tell-in-Some.field-0.0 c.loop.world c.tell.new.world c.loop-test.true
    (found_so (setups_of c.args.world.now) (setups_of c.loop.world) c.loop.world (Some c.in-Some.index) c.loop.invariant.setups c.in-Some.ensures)
    (setups_same (setups_of c.args.world.now) (setups_of c.loop.world) (λ u t. Deliver c.in-Some.index ∷ []) (Err c.in_err-tell-in-Some.field-0.0) c.loop.world c.tell.new.world c.loop.invariant.setups c.in_err-tell-in-Some.ensures.tells)
    (c.loop.invariant.delivers s h))

pub returns-in-None-clause-tells : goal.returns-in-None-clause-tells
returns-in-None-clause-tells g c = λ s h.
    delivering_all (setups_of c.args.world.now) s c.loop.counter c.loop.world
    (found_so (setups_of c.args.world.now) (setups_of c.loop.world) c.loop.world None c.loop.invariant.setups c.in-None.ensures)
    (c.loop.invariant.delivers s h)

pub loop-preserved : goal.loop-preserved
loop-preserved g c = record {
  setups = c.tell.ensures.setups ∙ c.loop.invariant.setups;
  moment = c.in_ok-tell-in-Some.ensures.moment ∙ c.loop.invariant.moment;
  delivers = λ s h.
      delivering_more (setups_of c.args.world.now) s c.loop.counter (c.loop.counter + 1) c.in-Some.index c.loop.world c.tell.new.world (add-one c.loop.counter) c.loop-test.true
      (found_so (setups_of c.args.world.now) (setups_of c.loop.world) c.loop.world (Some c.in-Some.index) c.loop.invariant.setups c.in-Some.ensures)
      (setups_same (setups_of c.args.world.now) (setups_of c.loop.world) (λ u t. Deliver c.in-Some.index ∷ []) (Ok c.in_ok-tell-in-Some.field-0) c.loop.world c.tell.new.world c.loop.invariant.setups c.in_ok-tell-in-Some.ensures.tells)
      (c.loop.invariant.delivers s h);
}

pub returns-clause-tells : goal.returns-clause-tells
returns-clause-tells g c = λ s h. delivering_most (setups_of c.args.world.now) s c.loop.counter c.loop.world c.loop-test.false (c.loop.invariant.delivers s h)
