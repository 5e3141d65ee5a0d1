use Rattle.std.proofs.Common.{◌≡◌, ◌≤◌, map, vec_len, vec_capacity}
use Rattle.std.specs.List.{range_with_len}
use Rattle.lat_live.specs.Lines as lines
use Rattle.lat_live.proofs.lines.lines_of.Given as goal

abbrev pub invariant-loop-k : goal.invariant-loop-k
invariant-loop-k l = record {
  len : vec_len l.all ≡ l.k;
  room : l.seats.lines ≤ vec_capacity l.all;
  items : l.all.items ≡ map (lines.line_of l.role l.seats) (range_with_len 1 l.k);
}
