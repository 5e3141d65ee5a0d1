use Rattle.std.proofs.Common.{◌+◌, ◌≤◌, length}
use Rattle.lat_audit.specs.Follows.{Counted}
use Rattle.lat_audit.proofs.Walks.{Walks}
use Rattle.lat_audit.proofs.input.audit.Given as goal

abbrev pub invariant-loop-line : goal.invariant-loop-line
invariant-loop-line l =
    record {
      walks : Walks l.input l.auditor l.number l.rest;
      counted : Counted l.auditor;
      count : l.auditor.count ≤ l.number;
      numbers : l.number + length l.rest ≤ length l.input + 2;
    }

abbrev pub decreases-loop-line : goal.decreases-loop-line
decreases-loop-line l = length l.rest
