use Rattle.std.proofs.Common.{[], length, ap, subst, arith}
use Rattle.std.proofs.lemmas.Grind.{common_steps}
use Rattle.lat_machines.specs.values.Addresses.{address}
use Rattle.lat_payload.proofs.Frames.{adds_none}
use Rattle.lat_lines.specs.circuits.Ending.{outlives_one}
use Rattle.lat_lines.specs.circuits.Kept.{Kept, Holds}
use Rattle.lat_lines.proofs.circuits.Each.{did_nothing, done_more}
use Rattle.lat_lines.proofs.circuits.Passing.{same_none, same_then, outlives_every}
use Rattle.lat_lines.proofs.circuits.Circuits.outlive.Goals as goal

pub loop-at-init : goal.loop-at-init
loop-at-init c = record {
  same = same_none c.args.self.now;
  end = omega (arith, c.len-at-end.ensures, c.self.inside.held.ok.0, ap (λ (k : Kept). length k.held) c.self.view_is);
  did = did_nothing c.args.self.now [];
}

pub loop-at-preserved : goal.loop-at-preserved
loop-at-preserved c = record {
  same = same_then c.args.self.now c.loop-at.self c.outlive_at.new.self c.loop-at.invariant.same c.outlive_at.ensures.same;
  end = c.loop-at.invariant.end;
  did = done_more (outlives_one (address c.args.from.0) c.args.source) c.args.self.now c.loop-at.self c.outlive_at.new.self c.loop-at.at [] [] []
      (omega (arith, c.loop-at.invariant.end)) c.loop-at.invariant.same c.loop-at.invariant.did
      (λ d st. (c.outlive_at.ensures.state d st, adds_none []));
}

pub returns-clause-state : goal.returns-clause-state
returns-clause-state c =
    let h : Holds c.args.self.now = subst Holds c.self.view_is c.self.invariant.0 in
    outlives_every (address c.args.from.0) c.args.source c.args.self.now c.loop-at.self c.loop-at.at h (omega (arith, c.loop-at.invariant.end)) c.loop-at.invariant.did

pub returns-clause-same : goal.returns-clause-same
returns-clause-same c = c.loop-at.invariant.same

pub outlive_at-requires : goal.outlive_at-requires
outlive_at-requires c = grind (arith, common_steps)
