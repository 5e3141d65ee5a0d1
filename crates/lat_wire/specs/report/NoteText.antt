-- What is printed of an answer that a report notes.
use Rattle.std.specs.Prelude.{ℕ, List, [], ◌++◌, codes, decimal}
use Rattle.lat_base.specs.FieldWords.{field_word}
use Rattle.lat_machines.specs.values.Answers.{Broke, Answer, Circuit, StartRefused, DirectoryFull, KeptIs, Bad, NoLine, Busy, NoService, SessionsFull, CircuitsFull, IdsOut, Closed, Full, IdUsed, Halted}
use Rattle.lat_machines.specs.values.Notices.{RecordsFull}
use Rattle.lat_payload.specs.FieldNumbers.{field_of}

-- the word of the field of this number
abbrev pub field_named : ℕ → List ℕ
field_named number = field_word (field_of number)

-- the word of a refusal
abbrev pub refusal_word : Answer → List ℕ
refusal_word NoLine = codes "no-line"
refusal_word Busy = codes "busy"
refusal_word NoService = codes "no-service"
refusal_word SessionsFull = codes "sessions-full"
refusal_word CircuitsFull = codes "circuits-full"
refusal_word IdsOut = codes "ids-out"
refusal_word Closed = codes "closed"
refusal_word Full = codes "full"
refusal_word IdUsed = codes "id-used"
refusal_word Halted = codes "halted"
refusal_word DirectoryFull = codes "directory-full"
refusal_word StartRefused = codes "start-refused"
refusal_word (KeptIs RecordsFull) = codes "records-full"
refusal_word answer = []

-- a payload of no layout by its first bad field, a broken circuit by its reason, and every refusal by its word
abbrev pub note_text : Answer → List ℕ
note_text (Bad field at) = codes "bad " ++ field_named field ++ codes " " ++ decimal at
note_text (Circuit (Broke reason)) = codes "broke " ++ decimal reason
note_text answer = codes "refused " ++ refusal_word answer
