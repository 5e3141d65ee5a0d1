use Rattle.std.proofs.Common.{◌≡◌, ◌++◌, take, string_bytes}
use Rattle.lat_trace.specs.Fates.{AreCounts}
use Rattle.lat_trace.specs.Runs.{Run}
use Rattle.lat_trace.specs.Shown.{ShowsRun}
use Rattle.lat_draw.specs.Events.{entries_drawn}
use Rattle.lat_draw.specs.Layout.{played}
use Rattle.lat_draw.specs.Placed.{IsLayout}
use Rattle.lat_draw.proofs.picture.entries_onto.Given as goal

abbrev pub invariant-loop-place : goal.invariant-loop-place
invariant-loop-place g l = (r : Run) → ShowsRun l.run r →
    AreCounts l.all r.schedule.events → AreCounts l.drawn (played r) → IsLayout (played r) l.run.entries l.layout →
    string_bytes l.text ≡ string_bytes l.initial.text ++ entries_drawn r 0 (take l.place r.entries)
