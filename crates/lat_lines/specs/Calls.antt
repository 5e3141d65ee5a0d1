-- The calls on a line's session, as the machines and the events know them.
use Rattle.std.specs.Prelude.{ℕ, min, Result, Ok, Err}
use Rattle.lat_base.specs.declared.answer.Answer.{Answer}
use Rattle.lat_base.specs.declared.answer.Answer.TheVariants as answers
use Rattle.lat_base.specs.declared.event.Event.{Event}
use Rattle.lat_base.specs.declared.event.Event.TheVariants as events
use Rattle.lat_machines.specs.cores.Cores.{Seat, Core, Side}
use Rattle.lat_machines.specs.cores.LineCalls.{Said, put_on, set_on, attend_on, close_on}
use Rattle.lat_stream.specs.declared.calls.SessionFault.{SessionFault}
use Rattle.lat_session.specs.declared.call.SessionCall.{SessionCall}
use Rattle.lat_session.specs.declared.call.SessionCall.TheVariants.{Put, Set, Attend, Close}
use Rattle.lat_lines.specs.Answers.{fault_answer}

-- the machines' call that it is
abbrev pub call_on : Side → Core → Seat → SessionCall → Said
call_on k c s (Put bytes) = put_on k c s bytes.now
call_on k c s (Set setting) = set_on k c s setting
call_on k c s (Attend flag) = attend_on k c s flag
call_on k c s Close = close_on k c s

-- the event that it is on a line
abbrev pub event_of : ℕ → SessionCall → Event
event_of line (Put bytes) = events.Put line bytes.now
event_of line (Set setting) = events.Set line setting
event_of line (Attend flag) = events.Attend line flag
event_of line Close = events.Close line

-- an event that is none of them
abbrev pub IsNoCall : Event → Type 0
IsNoCall (events.Put line bytes) = ⊥
IsNoCall (events.Set line setting) = ⊥
IsNoCall (events.Attend line flag) = ⊥
IsNoCall (events.Close line) = ⊥
IsNoCall e = Unit {0}

-- what is answered where so many bytes were taken
abbrev pub done_answer : SessionCall → ℕ → Answer
done_answer (Put bytes) n = answers.Put (min n 4096)
done_answer (Set setting) n = answers.Done
done_answer (Attend flag) n = answers.Done
done_answer Close n = answers.Done

-- and what for each answer of the session
abbrev pub call_answer : SessionCall → Result ℕ SessionFault → Answer
call_answer call (Ok n) = done_answer call n
call_answer call (Err fault) = fault_answer fault
