-- What an event says to the log beside what its core shows behind it.
use Rattle.std.specs.Prelude.{Bool, true, false, Option, Some, None}
use Rattle.lat_base.specs.declared.addr.Addr.{Addr}
use Rattle.lat_base.specs.declared.answer.Answer.{Answer}
use Rattle.lat_base.specs.declared.answer.Answer.TheVariants as answers
use Rattle.lat_base.specs.declared.event.Event.{Event}
use Rattle.lat_base.specs.declared.event.Event.TheVariants as events
use Rattle.lat_base.specs.declared.heard.Heard.TheVariants as heard
use Rattle.lat_log.specs.declared.entry.Entry.{Entry}
use Rattle.lat_log.specs.declared.entry.Entry.TheVariants as entries
use Rattle.lat_log.specs.declared.hint.Hint.{Hint}
use Rattle.lat_log.specs.declared.trigger.Trigger.{Trigger}
use Rattle.lat_log.specs.declared.trigger.Trigger.TheVariants as triggers

-- what an answer says of the circuits that ended
abbrev pub trigger_in : Answer → Trigger
trigger_in (answers.Circuit (heard.Ended reason)) = triggers.Stop reason
trigger_in (answers.Circuit (heard.Broke reason)) = triggers.Breach reason
trigger_in answer = triggers.Other

-- what an event was to the circuits that ended by it
abbrev pub trigger_of : Event → Answer → Trigger
trigger_of (events.Time now) answer = triggers.Time
trigger_of events.Halt answer = triggers.Halt
trigger_of event answer = trigger_in answer

-- circuits, sessions or requests may have come, changed or gone
abbrev pub concerns_lists : Event → Bool
concerns_lists (events.Put line bytes) = false
concerns_lists (events.Set line setting) = false
concerns_lists (events.Attend line flag) = false
concerns_lists event = true

abbrev pub bad_from : Addr → Answer → Option Entry
bad_from from (answers.Bad bad) = Some (entries.Bad bad from)
bad_from from answer = None

-- a heard payload of no layout
abbrev pub bad_of : Event → Answer → Option Entry
bad_of (events.Heard from payload now) answer = bad_from from answer
bad_of event answer = None

-- what an event with its answer says to the log
abbrev pub hint_of : Event → Answer → Hint
hint_of event answer = record { trigger = trigger_of event answer; bad = bad_of event answer; concerns = concerns_lists event }
