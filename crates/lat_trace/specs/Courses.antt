-- What a command answers that tells of the run of a schedule.
use Rattle.std.specs.Prelude.{ℕ, List, [], length, get_or, Bool, Option, Some, None, Result, Ok, Err, nat_lt, nat_eq, if◌then◌else◌}
use Rattle.lat_schedule.specs.ScheduleText.{schedule_of}
use Rattle.lat_schedule.specs.declared.schedule.Schedule.{Schedule}
use Rattle.lat_schedule.specs.declared.schedule.ScheduleFault.{ScheduleFault}
use Rattle.lat_schedule.specs.declared.schedule.ScheduleFault.TheVariants as faults
use Rattle.lat_text.specs.WrongLine.{wrong_line}
use Rattle.lat_wire.specs.report.RefusedText.{refused_text, status}
use Rattle.lat_wire.specs.declared.report.refused.Refused.{Refused}
use Rattle.lat_wire.specs.declared.report.refused.Refused.TheVariants.{EventsLimit}
use Rattle.lat_trace.specs.declared.run.Stop.{Stop}
use Rattle.lat_trace.specs.Runs.{Run, run_of}

-- the line by which `replay` refuses an event
abbrev pub stop_line : Stop → List ℕ
stop_line stop = refused_text stop.line stop.why

-- a limit, by the status that it has
abbrev pub is_limit : Refused → Bool
is_limit why = nat_eq (status why) 6

-- no schedule: the first wrong line, or the line of the first event too many
abbrev pub misread : ScheduleFault → ℕ × List ℕ
misread (faults.Form line) = (2, wrong_line line)
misread (faults.Events line) = (6, refused_text line EventsLimit)
misread faults.Memory = (9, [])

-- the event at which a limit was met, if one was
abbrev pub limit_of : Option Stop → Option Stop
limit_of None = None
limit_of (Some stop) = if is_limit stop.why then Some stop else None

-- 0 where a run came to its end, else the status of the refused event
abbrev pub stop_status : Option Stop → ℕ
stop_status None = 0
stop_status (Some stop) = status stop.why

-- a run that came to its end, or to an event that is refused: a limit has its line alone
abbrev pub unless_limit : Option Stop → ℕ × List ℕ → ℕ × List ℕ
unless_limit None told = told
unless_limit (Some stop) told = (6, stop_line stop)

-- what is told of a run, with the status
abbrev pub run_told : (tell : Run → List ℕ) → Run → ℕ × List ℕ
run_told tell r = unless_limit (limit_of r.stop) (stop_status r.stop, tell r)

-- of a schedule that has no more events than this; else the line of the first event too many
abbrev pub schedule_told : (most : ℕ) → (tell : Run → List ℕ) → Schedule → ℕ × List ℕ
schedule_told most tell s = if nat_lt most (length s.events) then misread (faults.Events (get_or s.lines most 0)) else run_told tell (run_of s)

abbrev pub read_told : (most : ℕ) → (tell : Run → List ℕ) → Result Schedule ScheduleFault → ℕ × List ℕ
read_told most tell (Ok s) = schedule_told most tell s
read_told most tell (Err fault) = misread fault

-- the status and the text for a text
unfoldable pub told_of : (most : ℕ) → (tell : Run → List ℕ) → List ℕ → ℕ × List ℕ
told_of most tell text = read_told most tell (schedule_of text)
