use Rattle.std.proofs.Common.{length, slice_index, ap, subst, arith}
use Rattle.std.proofs.lemmas.Grind.{common_steps}
use Rattle.lat_lines.specs.circuits.Kept.{Kept, Holds, ids, side_of}
use Rattle.lat_lines.specs.circuits.Times.{passes_one}
use Rattle.lat_lines.specs.circuits.Stands.{Simulates}
use Rattle.lat_lines.proofs.circuits.Each.{did_nothing, done_more}
use Rattle.lat_lines.proofs.circuits.Passing.{side_same, same_none, same_then, times_all}
use Rattle.lat_lines.proofs.circuits.Circuits.time.Goals as goal

pub loop-at-init : goal.loop-at-init
loop-at-init c = record {
  same = same_none c.args.self.now;
  end = omega (arith, c.len-at-end.ensures, c.self.inside.held.ok.0, ap (λ (k : Kept). length k.held) c.self.view_is);
  most = omega arith;
  did = did_nothing c.args.self.now c.args.out.now;
}

pub loop-at-preserved : goal.loop-at-preserved
loop-at-preserved c = record {
  same = same_then c.args.self.now c.loop-at.self c.time_at.new.self c.loop-at.invariant.same c.time_at.ensures.same;
  end = c.loop-at.invariant.end;
  most = omega (arith, c.loop-at.invariant.most, c.time_at.ensures.most);
  did = done_more (passes_one (side_of c.args.self.now)) c.args.self.now c.loop-at.self c.time_at.new.self c.loop-at.at c.args.out.now c.loop-at.out c.time_at.new.out
      (omega (arith, c.loop-at.invariant.end)) c.loop-at.invariant.same c.loop-at.invariant.did
      (subst (λ s. Simulates (passes_one s (slice_index (ids c.loop-at.self) c.loop-at.at)) c.loop-at.self c.time_at.new.self c.loop-at.out c.time_at.new.out) (side_same c.args.self.now c.loop-at.self c.loop-at.invariant.same.core) c.time_at.ensures.did);
}

pub returns-clause-did : goal.returns-clause-did
returns-clause-did c =
    let h : Holds c.args.self.now = subst Holds c.self.view_is c.self.invariant.0 in
    times_all c.args.self.now c.loop-at.self c.loop-at.at c.args.out.now c.loop-at.out h (omega (arith, c.loop-at.invariant.end)) c.loop-at.invariant.did

pub returns-clause-same : goal.returns-clause-same
returns-clause-same c = c.loop-at.invariant.same

pub time_at-requires-clause-at : goal.time_at-requires-clause-at
time_at-requires-clause-at c = grind (arith, common_steps)
