-- What is read of a record is what it was written of.
use Rattle.std.specs.Prelude.{◌≡◌, ◌≢◌, ℕ, ◌+◌, List, ◌++◌, Some, Ok, length, map}
use Rattle.lat_model.specs.Lists.{Each}
use Rattle.lat_past.specs.declared.past.Past.{Past}
use Rattle.lat_print.specs.AnswerWords.{answer_words}
use Rattle.lat_text.specs.Lines.{Line, lines_of, line_feed}
use Rattle.lat_record.specs.declared.entry.Entry.{Entry}
use Rattle.lat_record.specs.EntryRead.{entry_of}
use Rattle.lat_record.specs.declared.opening.Opening.{Opening}
use Rattle.lat_record.specs.declared.opening.Opening.TheVariants.{Server, Switch, Node}
use Rattle.lat_record.specs.declared.read.Record.{Record}
use Rattle.lat_record.specs.Openings.{IsWritten}
use Rattle.lat_record.specs.RecordRead.{record_of}
use Rattle.lat_record.specs.RecordText.{entry_text, record_text}
use Rattle.lat_record.specs.Values.{IsPast}

-- what is read of the line of an event: the event, and the words of its answer
abbrev pub read_as : Past → Entry
read_as p = record { event = p.event; answer = answer_words p.answer }

-- its text is one line in front of any other, and it is read so
pub record EntryReadsBack (p : Past) : Type 0 where
  pub line : List ℕ
  pub ends : (rest : List ℕ) → lines_of (entry_text p ++ rest) ≡ Line line (lines_of rest)
  pub is : entry_of line ≡ Some (read_as p)

abbrev pub EntriesReadBack : Type 0
EntriesReadBack = (p : Past) → IsPast p → EntryReadsBack p

-- how many lines stand in front of the first event
abbrev pub lines_before : Opening → ℕ
lines_before (Server config) = 5 + length config.offers
lines_before (Switch config) = 5
lines_before (Node opening) = 5 + (length opening.config.services + length opening.rates)

-- what is read of a record: the opening, the place of the first event, and the events with the words of their answers
abbrev pub read_of : Opening → List Past → Record
read_of o history = record { opening = o; first = lines_before o + 1; entries = map read_as history }

-- What is written is read as what it was written of, whatever stands behind it of a line that was cut
abbrev pub RecordsReadBack : Type 0
RecordsReadBack =
    (o : Opening) (history : List Past) (cut : List ℕ) → IsWritten o → Each IsPast history → Each (λ b. b ≢ line_feed) cut →
    record_of (record_text o history ++ cut) ≡ Ok (read_of o history)
