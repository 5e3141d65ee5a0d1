use Rattle.std.proofs.Common.{◌≡◌, length, take}
use Rattle.lat_trace.specs.Fates.{AreCounts}
use Rattle.lat_trace.proofs.fates.Fates.of.Given as goal

abbrev pub invariant-loop-event : goal.invariant-loop-event
invariant-loop-event l = record {
  counts : AreCounts l.counts.items (take l.event-index l.events);
  length : length l.counts.items ≡ l.frames;
}
