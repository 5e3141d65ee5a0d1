use Rattle.std.proofs.Common.{◌∙◌, ◌+◌, ◌^◌, refl, subst, sym, arith, add-one, Ok, Err}
use Rattle.lat_replay.specs.Kept.{moment_of, setups_of}
use Rattle.lat_replay.specs.Played.{State, StandsAt}
use Rattle.lat_settle.specs.Events.{round_events}
use Rattle.lat_settle.specs.Rounds.{StopsIn}
use Rattle.lat_settle.proofs.Running.{Running, moment_all, moment_so, running_all, running_more, running_none, running_stops, still_below}
use Rattle.lat_settle.proofs.Refusing.{full_or_memory, settles_so}
use Rattle.lat_settle.proofs.Turns.{setups_same}
use Rattle.lat_settle.proofs.settling.run_rounds.Goals as goal

pub round-requires : goal.round-requires
round-requires g c = still_below (setups_of c.args.world.now) (setups_of c.loop-place.world) (moment_of c.args.world.now) (moment_of c.loop-place.world) c.loop-place.place c.args.rounds (2 ^ 64) c.loop-place.invariant.setups c.loop-place.invariant.moment c.loop-place-test.true c.requires

pub loop-place-init : goal.loop-place-init
loop-place-init g c = record {
  within = omega arith;
  setups = refl;
  moment = omega arith;
  running = λ s h. running_none (setups_of c.args.world.now) s c.args.world.now h;
}

pub loop-place-preserved : goal.loop-place-preserved
loop-place-preserved g c = record {
  within = omega (arith, c.loop-place-test.true);
  setups = c.round.ensures.setups ∙ c.loop-place.invariant.setups;
  moment = moment_so (setups_of c.args.world.now) (setups_of c.loop-place.world) (moment_of c.args.world.now) (moment_of c.loop-place.world) (moment_of c.round.new.world) c.loop-place.place (c.loop-place.place + 1) (add-one c.loop-place.place) c.loop-place.invariant.setups c.loop-place.invariant.moment c.in_default.ensures.moment;
  running = λ s h.
      subst (λ z. Running (setups_of c.args.world.now) s z c.round.new.world) (sym (add-one c.loop-place.place))
      (running_more (setups_of c.args.world.now) s c.loop-place.place c.loop-place.world c.round.new.world (c.loop-place.invariant.running s h)
      (setups_same (setups_of c.args.world.now) (setups_of c.loop-place.world) round_events (Ok c.in_default.field-0) c.loop-place.world c.round.new.world c.loop-place.invariant.setups c.in_default.ensures.tells));
}

pub returns-in-Err-clause-runs : goal.returns-in-Err-clause-runs
returns-in-Err-clause-runs g c = λ s h.
    running_stops (setups_of c.args.world.now) s c.loop-place.place (c.loop-place.place + 1) c.args.rounds c.in-Err.fault c.loop-place.world c.round.new.world (add-one c.loop-place.place) c.loop-place-test.true (c.loop-place.invariant.running s h)
    (setups_same (setups_of c.args.world.now) (setups_of c.loop-place.world) round_events (Err c.in-Err.fault) c.loop-place.world c.round.new.world c.loop-place.invariant.setups c.in-Err.ensures.tells)

pub returns-in-Err-clause-refused : goal.returns-in-Err-clause-refused
returns-in-Err-clause-refused g c = λ s h b.
    let t : (t : State) × StopsIn (setups_of c.args.world.now) s c.args.rounds (c.loop-place.place + 1) c.in-Err.fault t × StandsAt c.round.new.world t =
    running_stops (setups_of c.args.world.now) s c.loop-place.place (c.loop-place.place + 1) c.args.rounds c.in-Err.fault c.loop-place.world c.round.new.world (add-one c.loop-place.place) c.loop-place-test.true (c.loop-place.invariant.running s h)
    (setups_same (setups_of c.args.world.now) (setups_of c.loop-place.world) round_events (Err c.in-Err.fault) c.loop-place.world c.round.new.world c.loop-place.invariant.setups c.in-Err.ensures.tells) in
    full_or_memory (setups_of c.args.world.now) s c.args.rounds (c.loop-place.place + 1) c.in-Err.fault t.0 b t.1

pub returns-clause-runs : goal.returns-clause-runs
returns-clause-runs g c = λ s h.
    let r : Running (setups_of c.args.world.now) s c.args.rounds c.loop-place.world = running_all (setups_of c.args.world.now) s c.loop-place.place c.args.rounds c.loop-place.world c.loop-place.invariant.within c.loop-place-test.false (c.loop-place.invariant.running s h) in
    (r.state, r.whole, r.stands)

pub returns-clause-moment : goal.returns-clause-moment
returns-clause-moment g c = moment_all (setups_of c.args.world.now) (moment_of c.args.world.now) (moment_of c.loop-place.world) c.loop-place.place c.args.rounds c.loop-place.invariant.within c.loop-place-test.false c.loop-place.invariant.moment

pub returns-clause-settles : goal.returns-clause-settles
returns-clause-settles g c = λ s h b.
    settles_so (setups_of c.args.world.now) s c.args.rounds c.loop-place.world (running_all (setups_of c.args.world.now) s c.loop-place.place c.args.rounds c.loop-place.world c.loop-place.invariant.within c.loop-place-test.false (c.loop-place.invariant.running s h)) b
