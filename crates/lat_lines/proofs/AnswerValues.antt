-- An answer of a core comes back from the machines as it was.
use Rattle.std.proofs.Common.{◌≡◌, refl, ap}
use Rattle.lat_base.specs.declared.answer.Answer as base
use Rattle.lat_base.specs.declared.answer.Answer.TheVariants as answers
use Rattle.lat_stream.proofs.Kept.{items_back}
use Rattle.lat_circuit.proofs.Hears.{heard_back}
use Rattle.lat_queue.proofs.KeptValues.{kept_back}
use Rattle.lat_payload.proofs.FieldNumbers.{field_back}
use Rattle.lat_lines.specs.AnswerValues.{answer_shown, answer_of}

pub answer_back : (a : base.Answer) → answer_of (answer_shown a) ≡ a
answer_back (answers.Circuit heard) = ap answers.Circuit (heard_back heard)
answer_back (answers.Started id) = refl
answer_back answers.StartRefused = refl
answer_back answers.Announced = refl
answer_back answers.DirectoryFull = refl
answer_back (answers.Kept kept) = ap answers.Kept (kept_back kept)
answer_back answers.NotKept = refl
answer_back answers.Noted = refl
answer_back answers.Apart = refl
answer_back answers.Solicited = refl
answer_back answers.Ignored = refl
answer_back (answers.Bad bad) = ap (λ f. answers.Bad (record { field = f; at = bad.at })) (field_back bad.field)
answer_back (answers.Connected circuit session) = refl
answer_back (answers.Put n) = refl
answer_back (answers.Took given) = ap answers.Took (items_back given)
answer_back answers.Done = refl
answer_back answers.NoLine = refl
answer_back answers.Busy = refl
answer_back answers.NoService = refl
answer_back answers.SessionsFull = refl
answer_back answers.CircuitsFull = refl
answer_back answers.IdsOut = refl
answer_back answers.Closed = refl
answer_back answers.Full = refl
answer_back answers.IdUsed = refl
answer_back answers.NotHere = refl
answer_back answers.Halted = refl
