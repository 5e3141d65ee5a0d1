-- The run of a schedule.
use Rattle.std.specs.Prelude.{ℕ, List, Option, Some, None, get_or}
use Rattle.lat_machines.specs.world.Machines.{Setups}
use Rattle.lat_replay.specs.Played.{open_state, Played, Through, Refused, played}
use Rattle.lat_replay.specs.Refusals.{refused_of}
use Rattle.lat_replay.specs.Setups.{setups_shown}
use Rattle.lat_schedule.specs.declared.schedule.Schedule.{Schedule}
use Rattle.lat_trace.specs.declared.run.Stop.{Stop}
use Rattle.lat_trace.specs.Entries.{Entry, entries_from}

-- the schedule, what happened at its events, and the event that was refused, if one was
pub record Run : Type 0 where
  pub schedule : Schedule
  pub entries : List Entry
  pub stop : Option Stop

-- the line of the event that is refused, and why it is
abbrev pub stop_of : (lines : List ℕ) → Played → Option Stop
stop_of lines (Through t) = None
stop_of lines (Refused index fault t) = Some (record { line = get_or lines index 0; why = refused_of fault })

abbrev pub run_from : Setups → Schedule → Run
run_from u s = record {
  schedule = s;
  entries = entries_from u 1 (open_state u) s.events;
  stop = stop_of s.lines (played u (open_state u) s.events);
}

unfoldable pub run_of : Schedule → Run
run_of s = run_from (setups_shown s.setup) s
