use Rattle.std.proofs.Common.{◌≡◌, ◌+◌, ◌≤◌, length}
use Rattle.lat_text.specs.Lines.{lines_of}
use Rattle.lat_schedule.specs.Places.{numbered, place}
use Rattle.lat_schedule.proofs.rest.Rest.heard.Given as goal

abbrev pub invariant-loop-line : goal.invariant-loop-line
invariant-loop-line l =
    record {
      same : numbered l.fn.self.silent l.number (lines_of l.text) ≡ place l.fn.self;
      counted : l.number + length l.text ≤ l.fn.self.number + length l.fn.self.text.now;
      shorter : length l.text ≤ length l.fn.self.text.now;
    }

abbrev pub decreases-loop-line : goal.decreases-loop-line
decreases-loop-line l = length l.text
