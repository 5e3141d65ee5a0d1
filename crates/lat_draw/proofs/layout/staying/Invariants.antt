use Rattle.std.proofs.Common.{◌≡◌, ◌-◌, ◌+◌, ◌≤◌, List}
use Rattle.lat_schedule.specs.declared.event.WorldEvent.{WorldEvent}
use Rattle.lat_trace.specs.Fates.{AreCounts}
use Rattle.lat_draw.specs.Layout.{staying}
use Rattle.lat_draw.proofs.layout.staying.Given as goal

abbrev pub invariant-loop-frame : goal.invariant-loop-frame
invariant-loop-frame l = record {
  count : (events : List WorldEvent) → AreCounts l.drawn events → l.count ≡ staying events l.entry.first (l.frame - l.entry.first);
  few : l.count + l.entry.first ≤ l.frame;
  low : l.entry.first ≤ l.frame;
}
