use Rattle.std.proofs.Common.{◌≡◌, ◌≤◌, ◌+◌, length}
use Rattle.lat_text.specs.Lines.{lines_of}
use Rattle.lat_explain.specs.Awaited.{count_lines}
use Rattle.lat_explain.proofs.awaited.count_lines.Given as goal

abbrev pub invariant-loop-behind : goal.invariant-loop-behind
invariant-loop-behind l = record {
  count : count_lines (lines_of l.text) ≡ l.count + count_lines (lines_of l.rest);
  most : l.count + length l.rest ≤ length l.text;
}

abbrev pub decreases-loop-behind : goal.decreases-loop-behind
decreases-loop-behind l = length l.rest
