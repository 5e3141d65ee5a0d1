use Rattle.std.proofs.Common.{◌≡◌, ◌+◌, ◌≤◌, ◌++◌, map, take, vec_len, vec_capacity}
use Rattle.std.specs.Prelude.{reverse}
use Rattle.lat_history.specs.Seats.{seats_from}
use Rattle.lat_live.specs.Posts.{IsPosted}
use Rattle.lat_live.specs.Seating.{EachPair, share_of, callers_of}
use Rattle.lat_live.proofs.seats.take_seats.Given as goal

abbrev pub invariant-loop-callers : goal.invariant-loop-callers
invariant-loop-callers g l = record {
  count : vec_len l.seats + vec_len l.lines ≡ vec_len l.fn.lines;
  shares : vec_len l.shares ≡ vec_len l.lines;
  room : vec_len l.fn.lines ≤ vec_capacity l.seats;
  ends : map callers_of l.seats.items ++ reverse l.lines.items ≡ l.fn.lines.items;
  posted : EachPair (IsPosted l.fn.plan) (take (vec_len l.seats) l.fn.plan.lines.now) l.seats.items;
  told : map share_of l.seats.items ++ reverse l.shares.items ≡ seats_from (vec_len l.fn.lines) 1;
}

abbrev pub decreases-loop-callers : goal.decreases-loop-callers
decreases-loop-callers g l = vec_len l.lines
