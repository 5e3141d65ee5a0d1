-- The lines of the events that were noted.
use Rattle.std.specs.Prelude.{ℕ, List}
use Rattle.lat_lines.specs.AnswerValues.{answer_shown}
use Rattle.lat_wire.specs.report.Noted.{noted_answer}
use Rattle.lat_wire.specs.report.ReportText.{event_text}
use Rattle.lat_wire.specs.declared.notes.Note.{Note}

abbrev pub note_line : Note → List ℕ
note_line n = event_text (record { event = n.event; answer = answer_shown (noted_answer n.noted) })
