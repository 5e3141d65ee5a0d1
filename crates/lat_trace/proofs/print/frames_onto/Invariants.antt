use Rattle.std.proofs.Common.{◌≡◌, ◌≤◌, ◌++◌, List, string_bytes}
use Rattle.lat_machines.specs.world.Machines.{Machines}
use Rattle.lat_schedule.specs.declared.event.WorldEvent.{WorldEvent}
use Rattle.lat_wire.specs.Stands.{Stands}
use Rattle.lat_trace.specs.Fates.{AreCounts}
use Rattle.lat_trace.specs.Shown.{between}
use Rattle.lat_trace.specs.TraceText.{frames_text}
use Rattle.lat_trace.proofs.print.frames_onto.Given as goal

abbrev pub invariant-loop-number : goal.invariant-loop-number
invariant-loop-number g l = record {
  text : (w : Machines) (events : List WorldEvent) → Stands l.wire w → AreCounts l.fates events →
      string_bytes l.text ≡ string_bytes l.initial.text ++ frames_text events l.entry.first (between l.entry.first l.number w.posts);
  low : l.entry.first ≤ l.number;
}
