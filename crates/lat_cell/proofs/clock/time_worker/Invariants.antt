use Rattle.std.proofs.Common.{◌≡◌}
use Rattle.lat_cell.proofs.clock.time_worker.Given as goal

abbrev pub invariant-loop : goal.invariant-loop
invariant-loop g l = record {
  can : (goal.iterator-loop g).can_next l.iterator';
  ends : (goal.iterator-loop g).is_finite l.iterator';
  seat : l.share.seat ≡ l.fn.share.seat;
  parts : l.share.parts ≡ l.fn.share.parts;
}
