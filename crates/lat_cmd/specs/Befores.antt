-- The last event that a core refused in front of one that names a frame which isn't there.
use Rattle.std.specs.Prelude.{◌≡◌, ℕ, ◌-◌, Bool, true, false, List, [], ◌∷◌, map, get_or, Option, Some, None, option_map, Result, Ok, Err, codes, decimal, if◌then◌else◌}
use Rattle.lat_base.specs.declared.answer.Answer as base
use Rattle.lat_base.specs.declared.answer.Answer.TheVariants as answers
use Rattle.lat_lines.specs.AnswerValues.{answer_shown}
use Rattle.lat_machines.specs.world.Machines.{Machines}
use Rattle.lat_replay.specs.Played.{Played, Through, Refused, played, open_state}
use Rattle.lat_replay.specs.Refusals.{refused_of}
use Rattle.lat_replay.specs.Setups.{setups_shown}
use Rattle.lat_schedule.specs.ScheduleText.{schedule_of}
use Rattle.lat_schedule.specs.declared.schedule.Schedule.{Schedule}
use Rattle.lat_schedule.specs.declared.schedule.ScheduleFault.{ScheduleFault}
use Rattle.lat_text.specs.Line.{line}
use Rattle.lat_wire.specs.Notes.{NoteInfo, noted_info}
use Rattle.lat_wire.specs.declared.report.noted.Refusal.{Refusal}
use Rattle.lat_wire.specs.declared.report.refused.Refused.{Refused as Why}
use Rattle.lat_wire.specs.declared.report.refused.Refused.TheVariants as lines
use Rattle.lat_wire.specs.report.NoteText.{refusal_word}
use Rattle.lat_wire.specs.report.Noted.{refusal_answer}
use Rattle.lat_cmd.specs.declared.before.Before as declared
use Rattle.lat_cmd.specs.declared.command.Command.{Command}
use Rattle.lat_cmd.specs.declared.command.Command.TheVariants.{Replay, Capture, Settle}
use Rattle.lat_cmd.specs.declared.course.Course.{Course}
use Rattle.lat_cmd.specs.declared.course.Course.TheVariants as courses

-- its line, and the word of the refusal
pub record Before : Type 0 where
  pub line : ℕ
  pub word : List ℕ

abbrev pub shown : Option declared.Before → Option Before
shown before = option_map (λ (b : declared.Before). record { line = b.line; word = refusal_word (answer_shown (refusal_answer b.refusal)) }) before

-- a note of a payload of no layout, or of a broken circuit, is none
abbrev pub is_refusal : base.Answer → Bool
is_refusal (answers.Bad bad) = false
is_refusal (answers.Circuit heard) = false
is_refusal answer = true

-- a refusal at the event of this number
abbrev pub refusal_info : ℕ × Refusal → NoteInfo
refusal_info r = record { event = r.0; answer = refusal_answer r.1 }

-- the last among notes, or what was found before
unfoldable pub last_refusal : List NoteInfo → (found : Option NoteInfo) → Option NoteInfo
last_refusal [] found = found
last_refusal (n ∷ notes) found = last_refusal notes (if is_refusal n.answer then Some n else found)

-- events have these lines, and are counted from 1
abbrev pub on_line : (numbers : List ℕ) → NoteInfo → Before
on_line numbers n = record { line = get_or numbers (n.event - 1) 0; word = refusal_word (answer_shown n.answer) }

abbrev pub before_why : (numbers : List ℕ) → Machines → Why → Option Before
before_why numbers m (lines.NoFrame index sent) = option_map (on_line numbers) (last_refusal (map noted_info m.noted) None)
before_why numbers m why = None

abbrev pub before_stop : (numbers : List ℕ) → Played → Option Before
before_stop numbers (Through t) = None
before_stop numbers (Refused index fault t) = before_why numbers t.machines (refused_of fault)

unfoldable pub schedule_before : Schedule → Option Before
schedule_before s = before_stop s.lines (played (setups_shown s.setup) (open_state (setups_shown s.setup)) s.events)

abbrev pub read_before : Result Schedule ScheduleFault → Option Before
read_before (Ok s) = schedule_before s
read_before (Err fault) = None

-- in a text that is a schedule
unfoldable pub text_before : List ℕ → Option Before
text_before input = read_before (schedule_of input)

-- in the input of a command that reports, captures or settles
abbrev pub before_of : Command → List ℕ → Option Before
before_of Replay input = text_before input
before_of (Capture circuit) input = text_before input
before_of (Settle rounds) input = text_before input
before_of command input = None

-- what is told of it
abbrev pub before_told : Option Before → List ℕ
before_told None = []
before_told (Some b) = line (codes "lat: line " ∷ decimal b.line ∷ codes ": refused before it: " ∷ b.word ∷ [])

-- where a schedule leads keeps it
abbrev pub KeepsBefore : {H : Type 0} → Option Before → Course H → Type 0
KeepsBefore before (courses.Through k) = before ≡ None
KeepsBefore before (courses.Stopped o) = shown o.before ≡ before
