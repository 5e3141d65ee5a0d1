-- The answers that are noted.
use Rattle.std.proofs.Common.{◌≡◌, refl}
use Rattle.lat_machines.specs.values.Notices as kepts
use Rattle.lat_machines.specs.values.Answers.{Running, Taken, Again, AckOnly, Foreign, Broke, Ended, Answer, Circuit, Started, StartRefused, Announced, DirectoryFull, KeptIs, NotKept, Noted, Apart, Solicited, Ignored, Bad, Done, Connected, Accepted, Took, NoLine, Busy, NoService, SessionsFull, CircuitsFull, IdsOut, Closed, Full, IdUsed, NotHere, Halted}
use Rattle.lat_machines.specs.world.Machines.{is_noted}
use Rattle.lat_lines.specs.AnswerValues.{answer_shown, answer_of}

-- a machine's answer is noted where the core's is
pub noted_same : (a : Answer) → is_noted a ≡ is_noted (answer_shown (answer_of a))
noted_same (Circuit Running) = refl
noted_same (Circuit (Taken n)) = refl
noted_same (Circuit Again) = refl
noted_same (Circuit AckOnly) = refl
noted_same (Circuit Foreign) = refl
noted_same (Circuit (Broke r)) = refl
noted_same (Circuit (Ended r)) = refl
noted_same (Started id) = refl
noted_same StartRefused = refl
noted_same Announced = refl
noted_same DirectoryFull = refl
noted_same (KeptIs (kepts.Waiting place)) = refl
noted_same (KeptIs kepts.Granted) = refl
noted_same (KeptIs kepts.Cancelled) = refl
noted_same (KeptIs kepts.QueueFull) = refl
noted_same (KeptIs kepts.NoService) = refl
noted_same (KeptIs kepts.RecordsFull) = refl
noted_same (KeptIs kepts.Done) = refl
noted_same NotKept = refl
noted_same Noted = refl
noted_same Apart = refl
noted_same Solicited = refl
noted_same Ignored = refl
noted_same (Bad field at) = refl
noted_same Done = refl
noted_same (Connected circuit session) = refl
noted_same (Accepted n) = refl
noted_same (Took items) = refl
noted_same NoLine = refl
noted_same Busy = refl
noted_same NoService = refl
noted_same SessionsFull = refl
noted_same CircuitsFull = refl
noted_same IdsOut = refl
noted_same Closed = refl
noted_same Full = refl
noted_same IdUsed = refl
noted_same NotHere = refl
noted_same Halted = refl
