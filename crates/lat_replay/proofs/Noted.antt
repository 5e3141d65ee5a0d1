-- The lines of the events that were noted.
use Rattle.std.proofs.Common.{◌≡◌, ℕ, refl, sym, ap, ap₂, ◌∙◌, List, [], ◌∷◌, ◌++◌, map}
use Rattle.std.specs.Prelude.{codes, decimal}
use Rattle.std.specs.List.{flat_map}
use Rattle.lat_machines.specs.values.Notices as notices
use Rattle.lat_machines.specs.values.Answers.{Heard, Running, Taken, Again, AckOnly, Foreign, Broke, Ended, Answer, Circuit, Started, StartRefused, Announced, DirectoryFull, KeptIs, NotKept, Noted, Apart, Solicited, Ignored, Bad, Done, Connected, Accepted, Took, NoLine, Busy, NoService, SessionsFull, CircuitsFull, IdsOut, Closed, Full, IdUsed, NotHere, Halted}
use Rattle.lat_machines.specs.world.Machines.{NotedEvent}
use Rattle.lat_lines.specs.AnswerValues.{answer_shown, answer_of}
use Rattle.lat_payload.specs.FieldNumbers.{field_of}
use Rattle.lat_wire.specs.report.NoteText.{note_text}
use Rattle.lat_wire.specs.report.ReportText.{event_text}
use Rattle.lat_text.specs.Line.{line}
use Rattle.lat_wire.proofs.ReportWords.{word_found}
use Rattle.lat_wire.specs.Notes.{NoteInfo, note_shown, noted_info}
use Rattle.lat_wire.specs.declared.notes.Note.{Note}
use Rattle.lat_replay.specs.Notes.{note_line}

heard_back : (h : Heard) → note_text (Circuit h) ≡ note_text (answer_shown (answer_of (Circuit h)))
heard_back Running = refl
heard_back (Taken n) = refl
heard_back Again = refl
heard_back AckOnly = refl
heard_back Foreign = refl
heard_back (Broke r) = refl
heard_back (Ended r) = refl

kept_back : (k : notices.Kept) → note_text (KeptIs k) ≡ note_text (answer_shown (answer_of (KeptIs k)))
kept_back (notices.Waiting p) = refl
kept_back notices.Granted = refl
kept_back notices.Cancelled = refl
kept_back notices.QueueFull = refl
kept_back notices.NoService = refl
kept_back notices.RecordsFull = refl
kept_back notices.Done = refl

-- what is printed of an answer is printed of what a core gave as it
note_back : (a : Answer) → note_text a ≡ note_text (answer_shown (answer_of a))
note_back (Circuit h) = heard_back h
note_back (Started id) = refl
note_back StartRefused = refl
note_back Announced = refl
note_back DirectoryFull = refl
note_back (KeptIs k) = kept_back k
note_back NotKept = refl
note_back Noted = refl
note_back Apart = refl
note_back Solicited = refl
note_back Ignored = refl
note_back (Bad field at) = rw (word_found (field_of field)) refl
note_back Done = refl
note_back (Connected circuit session) = refl
note_back (Accepted n) = refl
note_back (Took items) = refl
note_back NoLine = refl
note_back Busy = refl
note_back NoService = refl
note_back SessionsFull = refl
note_back CircuitsFull = refl
note_back IdsOut = refl
note_back Closed = refl
note_back Full = refl
note_back IdUsed = refl
note_back NotHere = refl
note_back Halted = refl

abbrev info_line : NoteInfo → List ℕ
info_line t = event_text (record { event = t.event; answer = answer_shown t.answer })

abbrev with_text : ℕ → List ℕ → List ℕ
with_text event text = line (codes "event " ∷ decimal event ∷ codes " " ∷ text ∷ [])

line_back : (n : NotedEvent) → info_line (noted_info n) ≡ event_text n
line_back n = ap (with_text n.event) (sym (note_back n.answer))

-- the lines of a wire's notes are those of the world's events
pub notes_same : (ns : List Note) (es : List NotedEvent) → map note_shown ns ≡ map noted_info es → flat_map note_line ns ≡ flat_map event_text es
notes_same [] [] q = refl
notes_same [] (e ∷ es) q = let z : ⊥ = cc in absurd z
notes_same (n ∷ ns) [] q = let z : ⊥ = cc in absurd z
notes_same (n ∷ ns) (e ∷ es) q =
    let a : note_shown n ≡ noted_info e = cc in
    let b : map note_shown ns ≡ map noted_info es = cc in
    ap₂ (λ x y. x ++ y) (ap info_line a ∙ line_back e) (notes_same ns es b)
