use Rattle.std.proofs.Common.{◌≡◌, ◌++◌, string_bytes, take}
use Rattle.std.specs.List.{flat_map}
use Rattle.lat_trace.specs.Runs.{Run}
use Rattle.lat_trace.specs.Shown.{ShowsRun}
use Rattle.lat_trace.specs.TraceText.{entry_text}
use Rattle.lat_trace.proofs.print.trace_onto.Given as goal

abbrev pub invariant-loop-place : goal.invariant-loop-place
invariant-loop-place g l = (r : Run) → ShowsRun l.run r →
    string_bytes l.text ≡ string_bytes l.initial.text ++ flat_map (entry_text r.schedule.events) (take l.place r.entries)
