-- Answers as the machines know them, and back: the answer that a core gives for one of the machines.
use Rattle.std.specs.Prelude.{map}
use Rattle.lat_base.specs.declared.answer.Answer as base
use Rattle.lat_base.specs.declared.answer.Answer.TheVariants as answers
use Rattle.lat_machines.specs.values.Answers.{Answer, Circuit, Started, StartRefused, Announced, DirectoryFull, KeptIs, NotKept, Noted, Apart, Solicited, Ignored, Bad, Done, Connected, Accepted, Took, NoLine, Busy, NoService, SessionsFull, CircuitsFull, IdsOut, Closed, Full, IdUsed, NotHere, Halted}
use Rattle.lat_stream.specs.Kept.{item_shown, item_of}
use Rattle.lat_circuit.specs.Hears.{heard_shown, heard_of}
use Rattle.lat_queue.specs.KeptValues.{kept_shown, kept_of}
use Rattle.lat_payload.specs.FieldNumbers.{field_number, field_of}

abbrev pub answer_shown : base.Answer → Answer
answer_shown (answers.Circuit heard) = Circuit (heard_shown heard)
answer_shown (answers.Started id) = Started id
answer_shown answers.StartRefused = StartRefused
answer_shown answers.Announced = Announced
answer_shown answers.DirectoryFull = DirectoryFull
answer_shown (answers.Kept kept) = KeptIs (kept_shown kept)
answer_shown answers.NotKept = NotKept
answer_shown answers.Noted = Noted
answer_shown answers.Apart = Apart
answer_shown answers.Solicited = Solicited
answer_shown answers.Ignored = Ignored
answer_shown (answers.Bad bad) = Bad (field_number bad.field) bad.at
answer_shown (answers.Connected circuit session) = Connected circuit session
answer_shown (answers.Put n) = Accepted n
answer_shown (answers.Took given) = Took (map item_shown given)
answer_shown answers.Done = Done
answer_shown answers.NoLine = NoLine
answer_shown answers.Busy = Busy
answer_shown answers.NoService = NoService
answer_shown answers.SessionsFull = SessionsFull
answer_shown answers.CircuitsFull = CircuitsFull
answer_shown answers.IdsOut = IdsOut
answer_shown answers.Closed = Closed
answer_shown answers.Full = Full
answer_shown answers.IdUsed = IdUsed
answer_shown answers.NotHere = NotHere
answer_shown answers.Halted = Halted

abbrev pub answer_of : Answer → base.Answer
answer_of (Circuit heard) = answers.Circuit (heard_of heard)
answer_of (Started id) = answers.Started id
answer_of StartRefused = answers.StartRefused
answer_of Announced = answers.Announced
answer_of DirectoryFull = answers.DirectoryFull
answer_of (KeptIs kept) = answers.Kept (kept_of kept)
answer_of NotKept = answers.NotKept
answer_of Noted = answers.Noted
answer_of Apart = answers.Apart
answer_of Solicited = answers.Solicited
answer_of Ignored = answers.Ignored
answer_of (Bad field at) = answers.Bad (record { field = field_of field; at = at })
answer_of Done = answers.Done
answer_of (Connected circuit session) = answers.Connected circuit session
answer_of (Accepted n) = answers.Put n
answer_of (Took items) = answers.Took (map item_of items)
answer_of NoLine = answers.NoLine
answer_of Busy = answers.Busy
answer_of NoService = answers.NoService
answer_of SessionsFull = answers.SessionsFull
answer_of CircuitsFull = answers.CircuitsFull
answer_of IdsOut = answers.IdsOut
answer_of Closed = answers.Closed
answer_of Full = answers.Full
answer_of IdUsed = answers.IdUsed
answer_of NotHere = answers.NotHere
answer_of Halted = answers.Halted
