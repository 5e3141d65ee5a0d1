-- RUNs that name no living circuit.
use Rattle.std.specs.Prelude.{ℕ, Bool, false, List, [], ◌∷◌, Option, Some, None}
use Rattle.lat_base.specs.declared.outbox.OutFrame as base
use Rattle.lat_machines.specs.values.Frames.{OutFrame}
use Rattle.lat_machines.specs.values.Messages.{Head, Message, RunMessage, WideMessage}
use Rattle.lat_machines.specs.cores.Cores.{Core, Side, told_stranger}

-- a head with these ids; of the rest nothing depends
abbrev pub head_with : (to source : ℕ) → Head
head_with to source = record { master = false; ask = false; to = to; from = source; seq = 0; ack = 0 }

-- what a core sends behind a message that it heard, where it is prompt
abbrev pub strangers_stop : Side → Bool → Core → ℕ → Message → List OutFrame
strangers_stop k prompt c from (RunMessage h slots) = told_stranger k prompt c from h
strangers_stop k prompt c from (WideMessage h slots) = told_stranger k prompt c from h
strangers_stop k prompt c from m = []

-- the frame, where there is one
abbrev pub frame_in : Option base.OutFrame → List base.OutFrame
frame_in None = []
frame_in (Some f) = f ∷ []
