use Rattle.std.proofs.Common.{◌≡◌, ◌≤◌, ◌+◌, length}
use Rattle.lat_text.specs.Lines.{lines_of}
use Rattle.lat_explain.specs.Before.{silent_lines}
use Rattle.lat_explain.proofs.before.silent_lines.Given as goal

abbrev pub invariant-loop-line : goal.invariant-loop-line
invariant-loop-line l = record {
  count : silent_lines (lines_of l.text) ≡ l.count + silent_lines (lines_of l.rest);
  most : l.count + length l.rest ≤ length l.text;
}

abbrev pub decreases-loop-line : goal.decreases-loop-line
decreases-loop-line l = length l.rest
