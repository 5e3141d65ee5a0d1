use Rattle.std.proofs.Common.{◌≡◌, ◌+◌, ◌≤◌, length, string_bytes}
use Rattle.lat_text.specs.Lines.{lines_of}
use Rattle.lat_show.specs.ShowOf.{shown_before, lines_printed}
use Rattle.lat_show.proofs.print.show.Given as goal

abbrev pub invariant-loop-line : goal.invariant-loop-line
invariant-loop-line l =
    record {
      shown : lines_printed 1 (lines_of l.input) ≡ shown_before (string_bytes l.text) (lines_printed l.number (lines_of l.rest));
      numbers : l.number + length l.rest ≤ length l.input + 1;
    }

abbrev pub decreases-loop-line : goal.decreases-loop-line
decreases-loop-line l = length l.rest
