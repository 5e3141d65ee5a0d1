use Rattle.std.proofs.Common.{◌+◌, ◌≤◌, length, string_bytes}
use Rattle.lat_text.specs.Lines.{lines_of}
use Rattle.lat_show.specs.choice.ChooseOf.{opening_of, printed_after}
use Rattle.lat_show.proofs.choice.EntriesPrinted.{Walks}
use Rattle.lat_show.proofs.choice.input.choose.Given as goal

abbrev pub invariant-loop-line : goal.invariant-loop-line
invariant-loop-line l =
    record {
      walks : Walks (printed_after (opening_of (lines_of l.input))) l.directory l.last l.number (string_bytes l.text) l.rest;
      before : l.directory.moment ≤ l.last;
      numbers : l.number + length l.rest ≤ length l.input + 1;
    }

abbrev pub decreases-loop-line : goal.decreases-loop-line
decreases-loop-line l = length l.rest
