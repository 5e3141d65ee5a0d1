-- What a frame bears, as its mark says.
use Rattle.std.specs.Prelude.{◌≡◌, ◌≢◌, ℕ, List, []}
use Rattle.lat_model.specs.sessions.Slots.{Slot}
use Rattle.lat_model.specs.numbers.NetOk.{Stands}
use Rattle.lat_model.specs.ends.End.{Mark, Fresh, Again, Bare}
use Rattle.lat_machines.specs.values.Messages.{RunMessage, WideMessage, StartMessage, StopMessage}
use Rattle.lat_machines.specs.values.Frames.{Value, OfCircuit, OfNotice, FrameMark, OfRun, Plain, OutFrame}
use Rattle.lat_machines.specs.cores.Cores.{Core}

-- the messages that a circuit formed
abbrev pub messages_of : Core → ℕ → List (List Slot)
messages_of c x = (c.circuits.circuit_at x).end.half.link.sent

-- Of a circuit that formed these messages: a new or a repeated RUN bears the slots of the message of its number, which has
-- some; a bare one bears none
abbrev pub BearsBy : List (List Slot) → Mark → ℕ → List Slot → Type 0
BearsBy sent Fresh n slots = (slots ≢ []) × Stands (List Slot) sent n slots
BearsBy sent (Again back) n slots = (slots ≢ []) × Stands (List Slot) sent n slots
BearsBy sent Bare n slots = slots ≡ []

abbrev pub BearsMarked : List (List Slot) → FrameMark → ℕ → List Slot → Type 0
BearsMarked sent (OfRun m) n slots = BearsBy sent m n slots
BearsMarked sent Plain n slots = ⊥

-- each RUN is marked, and no other frame is
abbrev pub BearsValue : List (List Slot) → FrameMark → ℕ → Value → Type 0
BearsValue sent m n (OfCircuit (RunMessage h slots)) = BearsMarked sent m n slots
BearsValue sent m n (OfCircuit (WideMessage h slots)) = BearsMarked sent m n slots
BearsValue sent m n (OfCircuit (StartMessage master ask to from info)) = m ≡ Plain
BearsValue sent m n (OfCircuit (StopMessage master ask to from reason text)) = m ≡ Plain
BearsValue sent m n (OfNotice x) = m ≡ Plain

abbrev pub Bears : (ℕ → List (List Slot)) → OutFrame → Type 0
Bears messages f = BearsValue (messages f.circuit) f.mark f.number f.value
