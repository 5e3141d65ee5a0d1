-- Answers in print.
use Rattle.std.specs.Prelude.{ℕ, List, [], ◌∷◌, ◌++◌, codes, decimal, length}
use Rattle.std.specs.List.{flat_map}
use Rattle.lat_base.specs.FieldWords.{field_word}
use Rattle.lat_base.specs.declared.answer.Answer.{Answer}
use Rattle.lat_base.specs.declared.answer.Answer.TheVariants as answers
use Rattle.lat_base.specs.declared.field.Bad.{Bad}
use Rattle.lat_base.specs.declared.heard.Heard.{Heard}
use Rattle.lat_base.specs.declared.heard.Heard.TheVariants as heard
use Rattle.lat_base.specs.declared.item.Item.{Item}
use Rattle.lat_base.specs.declared.item.Item.TheVariants.{Byte, Set}
use Rattle.lat_base.specs.declared.kept.Kept.{Kept}
use Rattle.lat_base.specs.declared.kept.Kept.TheVariants as kept
use Rattle.lat_base.specs.declared.outbox.Mark.{Mark}
use Rattle.lat_base.specs.declared.outbox.Mark.TheVariants as marks
use Rattle.lat_base.specs.declared.state.SessionEnd.{SessionEnd}
use Rattle.lat_base.specs.declared.state.SessionEnd.TheVariants as ends
use Rattle.lat_base.specs.declared.state.SessionState.{SessionState}
use Rattle.lat_base.specs.declared.state.SessionState.TheVariants as states
use Rattle.lat_text.specs.HexText.{byte_text, hex_text}
use Rattle.lat_text.specs.Line.{line}

abbrev pub heard_text : Heard → List ℕ
heard_text heard.Running = line (codes "running" ∷ [])
heard_text (heard.Taken slots) = line (codes "taken " ∷ decimal slots ∷ [])
heard_text heard.Again = line (codes "again" ∷ [])
heard_text heard.AckOnly = line (codes "ack-only" ∷ [])
heard_text heard.Foreign = line (codes "foreign" ∷ [])
heard_text (heard.Broke reason) = line (codes "broke " ∷ decimal reason ∷ [])
heard_text (heard.Ended reason) = line (codes "ended " ∷ decimal reason ∷ [])

abbrev pub mark_text : Mark → List ℕ
mark_text marks.Fresh = codes "fresh"
mark_text (marks.Again back) = codes "again " ++ decimal back
mark_text marks.Bare = codes "bare"
mark_text marks.Plain = codes "plain"

abbrev pub state_text : SessionState → List ℕ
state_text states.Free = codes "free"
state_text states.Calling = codes "calling"
state_text states.Asked = codes "asked"
state_text states.Live = codes "live"
state_text states.Closing = codes "closing"
state_text states.Left = codes "left"

abbrev pub end_text : SessionEnd → List ℕ
end_text ends.Closed = line (codes "closed" ∷ [])
end_text (ends.Rejected reason) = line (codes "rejected " ∷ decimal reason ∷ [])
end_text (ends.Circuit reason) = line (codes "circuit " ∷ decimal reason ∷ [])

-- a byte, or the five bytes of a setting, behind a blank
abbrev pub item_text : Item → List ℕ
item_text (Byte byte) = codes " " ++ byte_text byte
item_text (Set setting) = codes " set " ++ hex_text setting

abbrev pub items_text : List Item → List ℕ
items_text items = flat_map item_text items ++ codes "\n"

abbrev pub took_text : List Item → List ℕ
took_text items = codes "took " ++ decimal (length items) ++ items_text items

abbrev pub put_text : ℕ → List ℕ
put_text count = line (codes "put " ∷ decimal count ∷ [])

abbrev pub bad_text : Bad → List ℕ
bad_text bad = line (codes "bad " ∷ field_word bad.field ∷ codes " " ∷ decimal bad.at ∷ [])

abbrev pub kept_text : Kept → List ℕ
kept_text (kept.Waiting place) = codes "waiting " ++ decimal place
kept_text kept.Granted = codes "granted"
kept_text kept.Cancelled = codes "cancelled"
kept_text kept.QueueFull = codes "queue-full"
kept_text kept.NoService = codes "no-service"
kept_text kept.RecordsFull = codes "records-full"
kept_text kept.Done = codes "done"

abbrev pub kept_line : Kept → List ℕ
kept_line kept = line (codes "kept " ∷ kept_text kept ∷ [])

abbrev pub started_text : ℕ → List ℕ
started_text id = line (codes "started " ∷ decimal id ∷ [])

abbrev pub connected_text : ℕ → ℕ → List ℕ
connected_text circuit session = line (codes "connected circuit " ∷ decimal circuit ∷ codes " session " ∷ decimal session ∷ [])

abbrev pub state_line : SessionState → List ℕ
state_line state = line (state_text state ∷ [])

-- a frame's number and its mark
abbrev pub frame_text : ℕ → Mark → List ℕ
frame_text number mark = decimal number ++ codes " " ++ mark_text mark

-- how many credits a session gave and used
abbrev pub totals_text : ℕ → ℕ → List ℕ
totals_text given used = codes "given " ++ decimal given ++ codes " used " ++ decimal used

-- the line of what a core answers to an event
abbrev pub answer_text : Answer → List ℕ
answer_text (answers.Circuit heard) = heard_text heard
answer_text (answers.Started id) = started_text id
answer_text (answers.Kept kept) = kept_line kept
answer_text (answers.Bad bad) = bad_text bad
answer_text (answers.Connected circuit session) = connected_text circuit session
answer_text (answers.Put count) = put_text count
answer_text (answers.Took items) = took_text items
answer_text answers.StartRefused = codes "start-refused\n"
answer_text answers.Announced = codes "announced\n"
answer_text answers.DirectoryFull = codes "directory-full\n"
answer_text answers.NotKept = codes "not-kept\n"
answer_text answers.Noted = codes "noted\n"
answer_text answers.Apart = codes "apart\n"
answer_text answers.Solicited = codes "solicited\n"
answer_text answers.Ignored = codes "ignored\n"
answer_text answers.Done = codes "done\n"
answer_text answers.NoLine = codes "no-line\n"
answer_text answers.Busy = codes "busy\n"
answer_text answers.NoService = codes "no-service\n"
answer_text answers.SessionsFull = codes "sessions-full\n"
answer_text answers.CircuitsFull = codes "circuits-full\n"
answer_text answers.IdsOut = codes "ids-out\n"
answer_text answers.Closed = codes "closed\n"
answer_text answers.Full = codes "full\n"
answer_text answers.IdUsed = codes "id-used\n"
answer_text answers.NotHere = codes "not-here\n"
answer_text answers.Halted = codes "halted\n"
