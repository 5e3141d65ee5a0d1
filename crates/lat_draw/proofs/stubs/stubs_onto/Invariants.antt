use Rattle.std.proofs.Common.{◌≡◌, ◌-◌, ◌+◌, ◌≤◌, ◌++◌, List, string_bytes}
use Rattle.lat_machines.specs.world.Machines.{Machines}
use Rattle.lat_schedule.specs.declared.event.WorldEvent.{WorldEvent}
use Rattle.lat_wire.specs.Stands.{Stands}
use Rattle.lat_trace.specs.Fates.{AreCounts}
use Rattle.lat_trace.specs.Shown.{between}
use Rattle.lat_draw.specs.Events.{stubs_drawn}
use Rattle.lat_draw.specs.Layout.{staying}
use Rattle.lat_draw.proofs.stubs.stubs_onto.Given as goal

abbrev pub invariant-loop-number : goal.invariant-loop-number
invariant-loop-number g l = record {
  row : (played : List WorldEvent) → AreCounts l.drawn played → l.row ≡ l.initial.row + staying played l.entry.first (l.number - l.entry.first);
  text : (w : Machines) (events played : List WorldEvent) → Stands l.wire w → AreCounts l.all events → AreCounts l.drawn played →
      string_bytes l.text ≡ string_bytes l.initial.text ++ stubs_drawn events played (l.initial.row + 1) l.entry.first (between l.entry.first l.number w.posts);
  low : l.entry.first ≤ l.number;
}
