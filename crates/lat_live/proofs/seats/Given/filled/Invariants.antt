use Rattle.std.proofs.Common.{◌≡◌, ◌+◌, ◌++◌, ◌∷◌, map, vec_len, vec_capacity}
use Rattle.std.specs.Prelude.{reverse}
use Rattle.lat_live.specs.Seating.{share_of, done_of, callers_of}
use Rattle.lat_live.proofs.seats.Given.filled.Given as goal

abbrev pub invariant-loop-seat : goal.invariant-loop-seat
invariant-loop-seat g l = record {
  count_shares : vec_len l.shares + vec_len l.seats ≡ 1 + vec_len l.fn.seated.lines;
  count_ends : vec_len l.ends + vec_len l.seats ≡ vec_len l.fn.seated.lines;
  count_lines : vec_len l.lines + vec_len l.seats ≡ vec_len l.fn.seated.lines;
  shares_room : vec_capacity l.shares ≡ vec_capacity l.initial.shares;
  ends_room : vec_capacity l.ends ≡ vec_capacity l.initial.ends;
  lines_room : vec_capacity l.lines ≡ vec_capacity l.initial.lines;
  shares : l.shares.items ++ map share_of (reverse l.seats.items) ≡ l.fn.seated.wire ∷ map share_of l.fn.seated.lines.items;
  ends : l.ends.items ++ map done_of (reverse l.seats.items) ≡ map done_of l.fn.seated.lines.items;
  lines : l.lines.items ++ map callers_of (reverse l.seats.items) ≡ map callers_of l.fn.seated.lines.items;
}

abbrev pub decreases-loop-seat : goal.decreases-loop-seat
decreases-loop-seat g l = vec_len l.seats
