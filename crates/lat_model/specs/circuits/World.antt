-- All circuits of a server and of a node, with all frames between them.
use Rattle.std.specs.Prelude.{ℕ, Bool, true, false, List, [], ◌∷◌, ◌++◌}
use Rattle.lat_model.specs.Lists.{updated}
use Rattle.lat_model.specs.ends.End.{Sent, End, Step}
use Rattle.lat_model.specs.ends.Timers.{note_empty}
use Rattle.lat_model.specs.ends.Starting.{Setup, new_end}

pub record CircuitEntry : Type 0 where
  pub address : ℕ  -- the peer's address
  pub end : End

-- the circuits of one core by their ids
pub record Table : Type 0 where
  pub own : ℕ  -- the core's address
  pub first : ℕ  -- the id of the circuit that is drawn first
  pub drawn : ℕ  -- how many were drawn
  pub circuit_at : ℕ → CircuitEntry

pub record Wired : Type 0 where
  pub by_server : Bool
  pub circuit : ℕ  -- the sender's circuit
  pub to : ℕ  -- the address
  pub destination : ℕ  -- the two ids in the frame
  pub source : ℕ
  pub sent : Sent

pub record World : Type 0 where
  pub server : Table
  pub node : Table
  pub frames : List Wired
  pub setup : Setup  -- the server's
  pub other : Setup  -- the node's

abbrev pub table : World → Bool → Table
table w true = w.server
table w false = w.node

abbrev pub with_table : World → Bool → Table → List Wired → World
with_table w true t fs = record w { server = t; frames = w.frames ++ fs }
with_table w false t fs = record w { node = t; frames = w.frames ++ fs }

abbrev pub wire_all : Bool → ℕ → ℕ → ℕ → List Sent → List Wired
wire_all b x to destination [] = []
wire_all b x to destination (s ∷ ss) =
    record { by_server = b; circuit = x; to = to; destination = destination; source = x; sent = s } ∷ wire_all b x to destination ss

-- the circuit x of the side b after a step, and what it sent
abbrev pub put_circuit : World → Bool → ℕ → ℕ → ℕ → Step → World
put_circuit w b drawn x address s =
    let entry : CircuitEntry = record { address = address; end = s.end } in
    let after : Table = record (table w b) { drawn = drawn; circuit_at = updated (table w b).circuit_at x entry } in
    with_table w b after (wire_all b x address s.end.peer s.sent)

abbrev pub at_end : World → Bool → ℕ → Step → World
at_end w b x s =
    put_circuit w b (table w b).drawn x ((table w b).circuit_at x).address (note_empty ((table w b).circuit_at x).end s)

abbrev pub first_end : Bool → Bool → Setup → End
first_end m exists u = new_end m exists u.timer u.keepalive u.sessions u.ceiling

abbrev pub no_circuit : Bool → Setup → CircuitEntry
no_circuit m u = record { address = 0; end = first_end m false u }
