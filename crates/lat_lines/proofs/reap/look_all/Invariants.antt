use Rattle.std.proofs.Common.{◌≡◌, take, drop}
use Rattle.std.specs.List.{AllZip}
use Rattle.lat_lines.specs.Looks.{Looks}
use Rattle.lat_lines.proofs.reap.look_all.Given as goal

-- those so far were looked at, and the rest are as they were
abbrev pub invariant-loop-seat : goal.invariant-loop-seat
invariant-loop-seat l = record {
  looked : AllZip (Looks l.circuits) (take l.seat-index l.initial.seats) (take l.seat-index l.seats);
  rest : drop l.seat-index l.seats ≡ drop l.seat-index l.initial.seats;
}
