-- The words of answers.
use Rattle.std.specs.Prelude.{ℕ, List, ◌++◌, codes, decimal}
use Rattle.lat_base.specs.FieldWords.{field_word}
use Rattle.lat_base.specs.declared.answer.Answer.{Answer}
use Rattle.lat_base.specs.declared.answer.Answer.TheVariants as answers
use Rattle.lat_base.specs.declared.field.Bad.{Bad}
use Rattle.lat_base.specs.declared.heard.Heard.{Heard}
use Rattle.lat_base.specs.declared.heard.Heard.TheVariants as heard
use Rattle.lat_base.specs.declared.kept.Kept.{Kept}
use Rattle.lat_base.specs.declared.kept.Kept.TheVariants as kept
use Rattle.lat_print.specs.ItemsText.{items_text}

-- what a circuit answers
abbrev pub heard_words : Heard → List ℕ
heard_words heard.Running = codes "running"
heard_words (heard.Taken slots) = codes "taken " ++ decimal slots
heard_words heard.Again = codes "again"
heard_words heard.AckOnly = codes "ack-only"
heard_words heard.Foreign = codes "foreign"
heard_words (heard.Broke reason) = codes "broke " ++ decimal reason
heard_words (heard.Ended reason) = codes "ended " ++ decimal reason

-- what is kept of a request
abbrev pub kept_words : Kept → List ℕ
kept_words (kept.Waiting place) = codes "waiting " ++ decimal place
kept_words kept.Granted = codes "granted"
kept_words kept.Cancelled = codes "cancelled"
kept_words kept.QueueFull = codes "queue-full"
kept_words kept.NoService = codes "no-service"
kept_words kept.RecordsFull = codes "records-full"
kept_words kept.Done = codes "done"

abbrev pub kept_of_words : Kept → List ℕ
kept_of_words k = codes "kept " ++ kept_words k

-- the first bad field of a payload, and its place
abbrev pub bad_words : Bad → List ℕ
bad_words bad = codes "bad " ++ (field_word bad.field ++ (codes " " ++ decimal bad.at))

abbrev pub connected_words : (circuit session : ℕ) → List ℕ
connected_words circuit session = codes "connected circuit " ++ (decimal circuit ++ (codes " session " ++ decimal session))

-- what a core answers
abbrev pub answer_words : Answer → List ℕ
answer_words (answers.Circuit heard) = heard_words heard
answer_words (answers.Started id) = codes "started " ++ decimal id
answer_words (answers.Kept kept) = kept_of_words kept
answer_words (answers.Bad bad) = bad_words bad
answer_words (answers.Connected circuit session) = connected_words circuit session
answer_words (answers.Put count) = codes "put " ++ decimal count
answer_words (answers.Took items) = codes "took " ++ items_text items
answer_words answers.StartRefused = codes "start-refused"
answer_words answers.Announced = codes "announced"
answer_words answers.DirectoryFull = codes "directory-full"
answer_words answers.NotKept = codes "not-kept"
answer_words answers.Noted = codes "noted"
answer_words answers.Apart = codes "apart"
answer_words answers.Solicited = codes "solicited"
answer_words answers.Ignored = codes "ignored"
answer_words answers.Done = codes "done"
answer_words answers.NoLine = codes "no-line"
answer_words answers.Busy = codes "busy"
answer_words answers.NoService = codes "no-service"
answer_words answers.SessionsFull = codes "sessions-full"
answer_words answers.CircuitsFull = codes "circuits-full"
answer_words answers.IdsOut = codes "ids-out"
answer_words answers.Closed = codes "closed"
answer_words answers.Full = codes "full"
answer_words answers.IdUsed = codes "id-used"
answer_words answers.NotHere = codes "not-here"
answer_words answers.Halted = codes "halted"
