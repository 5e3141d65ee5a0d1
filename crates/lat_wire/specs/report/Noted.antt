-- What a report notes of the answers of a core.
use Rattle.std.specs.Prelude.{cond, Option, Some, None}
use Rattle.lat_base.specs.declared.answer.Answer as base
use Rattle.lat_base.specs.declared.answer.Answer.TheVariants as answers
use Rattle.lat_base.specs.declared.heard.Heard.TheVariants as heards
use Rattle.lat_base.specs.declared.kept.Kept.TheVariants as kepts
use Rattle.lat_machines.specs.world.Machines.{is_noted}
use Rattle.lat_lines.specs.AnswerValues.{answer_shown}
use Rattle.lat_wire.specs.declared.report.noted.Refusal.{Refusal}
use Rattle.lat_wire.specs.declared.report.noted.Refusal.TheVariants as refusals
use Rattle.lat_wire.specs.declared.report.noted.Noted.{Noted}
use Rattle.lat_wire.specs.declared.report.noted.Noted.TheVariants as noteds

-- the answer that refuses so
abbrev pub refusal_answer : Refusal → base.Answer
refusal_answer refusals.NoLine = answers.NoLine
refusal_answer refusals.Busy = answers.Busy
refusal_answer refusals.NoService = answers.NoService
refusal_answer refusals.SessionsFull = answers.SessionsFull
refusal_answer refusals.CircuitsFull = answers.CircuitsFull
refusal_answer refusals.IdsOut = answers.IdsOut
refusal_answer refusals.Closed = answers.Closed
refusal_answer refusals.Full = answers.Full
refusal_answer refusals.IdUsed = answers.IdUsed
refusal_answer refusals.Halted = answers.Halted
refusal_answer refusals.DirectoryFull = answers.DirectoryFull
refusal_answer refusals.StartRefused = answers.StartRefused
refusal_answer refusals.RecordsFull = answers.Kept kepts.RecordsFull

-- the answer that is noted so
abbrev pub noted_answer : Noted → base.Answer
noted_answer (noteds.Bad bad) = answers.Bad bad
noted_answer (noteds.Broke reason) = answers.Circuit (heards.Broke reason)
noted_answer (noteds.Refused refusal) = refusal_answer refusal

-- the answer itself, where the machines note it
abbrev pub noted_of : base.Answer → Option base.Answer
noted_of a = cond (is_noted (answer_shown a)) (Some a) None
