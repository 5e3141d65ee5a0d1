use Rattle.std.proofs.Common.{◌≡◌, List, length, take}
use Rattle.lat_schedule.specs.declared.event.WorldEvent.{WorldEvent}
use Rattle.lat_trace.specs.Fates.{AreCounts}
use Rattle.lat_draw.specs.Placed.{places, behind}
use Rattle.lat_draw.proofs.layout.Layout.of.Given as goal

abbrev pub invariant-loop-entry : goal.invariant-loop-entry
invariant-loop-entry l = record {
  places : (events : List WorldEvent) → AreCounts l.drawn events → l.places.items ≡ places events 0 (take l.entry-index l.entries);
  row : (events : List WorldEvent) → AreCounts l.drawn events → l.row ≡ behind events 0 (take l.entry-index l.entries);
  count : length l.places.items ≡ l.entry-index;
}
