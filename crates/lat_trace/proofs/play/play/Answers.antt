use Rattle.std.proofs.Common.{◌∙◌, ◌+◌, Err, Ok, ap, length, refl, subst, sym, take, add-one, arith}
use Rattle.std.proofs.lemmas.Option.{slice_get_read}
use Rattle.lat_machines.specs.world.Machines.{Setups}
use Rattle.lat_wire.specs.Kept.{setups_of}
use Rattle.lat_wire.specs.Refusals.{RefusedAs}
use Rattle.lat_replay.specs.Played.{State, next, refusal}
use Rattle.lat_trace.specs.Shown.{Enters, IsAt}
use Rattle.lat_trace.proofs.Playing.{Reaches, reaches_all, reaches_more, reaches_none, stops_at}
use Rattle.lat_trace.proofs.play.play.Goals as goal

pub loop-index-init : goal.loop-index-init
loop-index-init g c = record {
  setups = refl;
  count = ap length c.requires.empty;
  reaches = λ s h. reaches_none c.args.wire.now (setups_of c.args.wire.now) s c.args.events.now c.args.entries.now c.requires.empty h;
}

pub returns-in-Err-clause-plays : goal.returns-in-Err-clause-plays
returns-in-Err-clause-plays g c = λ s h.
    let u = setups_of c.args.wire.now in
    stops_at (Unit {0}) c.loop-index.wire c.enter.new.wire u s c.args.events.now c.loop-index.index c.index-events-index.result c.in-Err.fault c.loop-index.entries c.enter.new.entries
    c.loop-index.invariant.count
    (slice_get_read c.args.events.now (length c.args.events.now) c.loop-index.index c.index-events-index.result refl c.loop-index-test.true c.index-events-index.is)
    (omega (arith, c.loop-index-test.true))
    (subst (λ (v : Setups). (t : State) → IsAt c.loop-index.wire t → RefusedAs {A = Unit {0}} (Err c.in-Err.fault) (refusal v t c.index-events-index.result)) c.loop-index.invariant.setups c.in-Err.ensures.refused)
    c.in-Err.ensures.err
    (c.loop-index.invariant.reaches s h)

pub loop-index-preserved : goal.loop-index-preserved
loop-index-preserved g c =
    let u = setups_of c.args.wire.now in
    let e = c.index-events-index.result in
    record {
      setups = c.enter.ensures.setups ∙ c.loop-index.invariant.setups;
      count = c.in_default.ensures.longer ∙ ap (λ n. n + 1) c.loop-index.invariant.count;
      reaches = λ s h.
          subst (λ n. Reaches u s (take n c.args.events.now) c.enter.new.wire c.enter.new.entries) (sym (add-one c.loop-index.index))
          (reaches_more c.loop-index.wire c.enter.new.wire u s c.args.events.now c.loop-index.index e c.loop-index.entries c.enter.new.entries
          c.loop-index.invariant.count
          (slice_get_read c.args.events.now (length c.args.events.now) c.loop-index.index e refl c.loop-index-test.true c.index-events-index.is)
          (omega (arith, c.loop-index-test.true))
          (subst (λ (v : Setups). (t : State) → IsAt c.loop-index.wire t → RefusedAs {A = Unit {0}} (Ok c.in_default.field-0) (refusal v t e)) c.loop-index.invariant.setups c.in_default.ensures.refused)
          (subst (λ (v : Setups). (t : State) → IsAt c.loop-index.wire t → IsAt c.enter.new.wire (next v t e)) c.loop-index.invariant.setups c.in_default.ensures.goes)
          (subst (λ (v : Setups). (t : State) → IsAt c.loop-index.wire t → Enters v t e c.loop-index.entries c.enter.new.entries) c.loop-index.invariant.setups c.in_default.ensures.enters)
          (c.loop-index.invariant.reaches s h));
    }

pub returns-clause-plays : goal.returns-clause-plays
returns-clause-plays g c = λ s h. reaches_all c.loop-index.wire (setups_of c.args.wire.now) s c.args.events.now c.loop-index.index c.loop-index.entries c.loop-index-test.false (c.loop-index.invariant.reaches s h)
