use Rattle.std.proofs.Common.{length, slice_index, ap, subst, arith}
use Rattle.std.proofs.lemmas.Grind.{common_steps}
use Rattle.lat_frames.specs.Reasons.{end_bits}
use Rattle.lat_lines.specs.circuits.Ending.{ends_one}
use Rattle.lat_lines.specs.circuits.Kept.{Kept, Holds, ids, side_of}
use Rattle.lat_lines.specs.circuits.Stands.{Simulates}
use Rattle.lat_lines.proofs.circuits.Each.{did_nothing, done_more}
use Rattle.lat_lines.proofs.circuits.Passing.{side_same, same_none, same_then, ends_every}
use Rattle.lat_lines.proofs.circuits.Circuits.end_all.Goals as goal

pub loop-at-init : goal.loop-at-init
loop-at-init c = record {
  same = same_none c.args.self.now;
  end = omega (arith, c.len-at-end.ensures, c.self.inside.held.ok.0, ap (λ (k : Kept). length k.held) c.self.view_is);
  most = omega arith;
  did = did_nothing c.args.self.now c.args.out.now;
}

pub loop-at-preserved : goal.loop-at-preserved
loop-at-preserved c = record {
  same = same_then c.args.self.now c.loop-at.self c.end_at.new.self c.loop-at.invariant.same c.end_at.ensures.same;
  end = c.loop-at.invariant.end;
  most = omega (arith, c.loop-at.invariant.most, c.end_at.ensures.most);
  did = done_more (ends_one (side_of c.args.self.now) (end_bits c.args.reason)) c.args.self.now c.loop-at.self c.end_at.new.self c.loop-at.at c.args.out.now c.loop-at.out c.end_at.new.out
      (omega (arith, c.loop-at.invariant.end)) c.loop-at.invariant.same c.loop-at.invariant.did
      (subst (λ s. Simulates (ends_one s (end_bits c.args.reason) (slice_index (ids c.loop-at.self) c.loop-at.at)) c.loop-at.self c.end_at.new.self c.loop-at.out c.end_at.new.out) (side_same c.args.self.now c.loop-at.self c.loop-at.invariant.same.core) c.end_at.ensures.did);
}

pub returns-clause-did : goal.returns-clause-did
returns-clause-did c =
    let h : Holds c.args.self.now = subst Holds c.self.view_is c.self.invariant.0 in
    ends_every (end_bits c.args.reason) c.args.self.now c.loop-at.self c.loop-at.at c.args.out.now c.loop-at.out h (omega (arith, c.loop-at.invariant.end)) c.loop-at.invariant.did

pub returns-clause-same : goal.returns-clause-same
returns-clause-same c = c.loop-at.invariant.same

pub end_at-requires-clause-at : goal.end_at-requires-clause-at
end_at-requires-clause-at c = grind (arith, common_steps)
