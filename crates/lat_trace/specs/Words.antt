-- The words of an event and of what was answered to it.
use Rattle.std.specs.Prelude.{ℕ, ◌-◌, List, length, take, codes, Option, Some, None}
use Rattle.lat_base.specs.declared.answer.Answer.{Answer}
use Rattle.lat_print.specs.AnswerWords.{answer_words}
use Rattle.lat_schedule.specs.EventText.{event_text}
use Rattle.lat_schedule.specs.declared.event.WorldEvent.{WorldEvent}

-- the line that a schedule has for it, without the line feed
abbrev pub event_words : WorldEvent → List ℕ
event_words e = take (length (event_text e) - 1) (event_text e)

-- a frame that isn't for the end has no answer of a core
abbrev pub told_words : Option Answer → List ℕ
told_words None = codes "not-for"
told_words (Some answer) = answer_words answer
