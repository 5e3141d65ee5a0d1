use Rattle.std.proofs.Common.{◌≡◌, ◌-◌, ◌&&◌, nat_le}
use Rattle.lat_captures.specs.Audit.{find_from}
use Rattle.lat_captures.specs.Tests.{bears}
use Rattle.lat_captures.proofs.side.first_near.Given as goal

abbrev pub invariant-loop-number : goal.invariant-loop-number
invariant-loop-number l =
    find_from (λ n. bears l.wide l.field n && nat_le l.floor n) l.fn.least l.fn.count
    ≡ find_from (λ n. bears l.wide l.field n && nat_le l.floor n) l.number (l.number-end - l.number)
