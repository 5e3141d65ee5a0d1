-- The events that the report notes.
use Rattle.std.specs.Prelude.{◌≡◌, ℕ, List, [], ◌∷◌, ◌++◌, cond}
use Rattle.lat_base.specs.declared.answer.Answer as base
use Rattle.lat_machines.specs.world.Machines.{NotedEvent, is_noted}
use Rattle.lat_lines.specs.AnswerValues.{answer_shown, answer_of}
use Rattle.lat_wire.specs.report.Noted.{noted_answer}
use Rattle.lat_wire.specs.declared.notes.Note.{Note}

-- a note, whichever way it is known
pub record NoteInfo : Type 0 where
  pub event : ℕ
  pub answer : base.Answer

abbrev pub note_shown : Note → NoteInfo
note_shown n = record { event = n.event; answer = noted_answer n.noted }

abbrev pub noted_info : NotedEvent → NoteInfo
noted_info n = record { event = n.event; answer = answer_of n.answer }

-- the notes behind an event that was answered so
abbrev pub NotesOn : List NoteInfo → ℕ → base.Answer → List NoteInfo → Type 0
NotesOn before event a after =
    after ≡ cond (is_noted (answer_shown a)) (before ++ record { event = event; answer = a } ∷ []) before
