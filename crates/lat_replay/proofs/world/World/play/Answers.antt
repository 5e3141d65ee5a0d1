use Rattle.std.proofs.Common.{◌∙◌, Err, Ok, ap, length, refl, subst, sym, take, add-one}
use Rattle.std.proofs.lemmas.Option.{slice_get_read}
use Rattle.lat_replay.specs.Kept.{setups_of}
use Rattle.lat_replay.proofs.Playing.{Reaches, goes_on, reaches_all, reaches_more, refused_so, stays_so, stops_at}
use Rattle.lat_replay.proofs.world.World.play.Goals as goal

pub returns-in-Err-clause-plays : goal.returns-in-Err-clause-plays
returns-in-Err-clause-plays g c = λ s h.
    stops_at (Unit {0}) c.loop-index.self c.step.new.self (setups_of c.args.self.now) s c.args.events.now c.loop-index.index c.index-events-index.result c.in-Err.fault
    (slice_get_read c.args.events.now (length c.args.events.now) c.loop-index.index c.index-events-index.result refl c.loop-index-test.true c.index-events-index.is)
    (refused_so {A = Unit {0}} c.loop-index.self (setups_of c.args.self.now) c.index-events-index.result (Err c.in-Err.fault) c.loop-index.invariant.setups c.in-Err.ensures.refused)
    (stays_so c.loop-index.self c.step.new.self c.in-Err.ensures.err_stands (ap (λ z. z.moment) c.in-Err.ensures.err))
    (c.loop-index.invariant.reaches s h)

pub loop-index-preserved : goal.loop-index-preserved
loop-index-preserved g c = record {
  setups = c.step.ensures.setups ∙ c.loop-index.invariant.setups;
  reaches = λ s h.
      subst (λ n. Reaches (setups_of c.args.self.now) s (take n c.args.events.now) c.step.new.self) (sym (add-one c.loop-index.index))
      (reaches_more c.loop-index.self c.step.new.self (setups_of c.args.self.now) s c.args.events.now c.loop-index.index c.index-events-index.result
      (slice_get_read c.args.events.now (length c.args.events.now) c.loop-index.index c.index-events-index.result refl c.loop-index-test.true c.index-events-index.is)
      (refused_so {A = Unit {0}} c.loop-index.self (setups_of c.args.self.now) c.index-events-index.result (Ok c.in_default.field-0) c.loop-index.invariant.setups c.in_default.ensures.refused)
      (goes_on c.loop-index.self c.step.new.self (setups_of c.args.self.now) c.index-events-index.result c.loop-index.invariant.setups c.in_default.ensures.stands c.in_default.ensures.moment)
      (c.loop-index.invariant.reaches s h));
}

pub returns-clause-plays : goal.returns-clause-plays
returns-clause-plays g c = λ s h. reaches_all c.loop-index.self (setups_of c.args.self.now) s c.args.events.now c.loop-index.index c.loop-index-test.false (c.loop-index.invariant.reaches s h)
