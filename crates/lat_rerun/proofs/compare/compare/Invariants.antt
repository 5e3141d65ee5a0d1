use Rattle.std.proofs.Common.{◌≡◌, ◌+◌, [], length}
use Rattle.lat_rerun.specs.Reruns.{Led}
use Rattle.lat_rerun.proofs.compare.compare.Given as goal

abbrev pub invariant-loop-entry : goal.invariant-loop-entry
invariant-loop-entry g l =
    let c = g.C.Core in
    record {
      valid : c.valid l.core;
      empty : l.out ≡ [];
      counted : l.place + length l.rest ≡ length l.entries;
      led : (s : c.State) → c.stands l.initial.core s → Led c.next c.answer c.stands l.core s l.entries l.place l.rest;
    }

abbrev pub decreases-loop-entry : goal.decreases-loop-entry
decreases-loop-entry g l = length l.rest
