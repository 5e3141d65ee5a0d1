-- Sessions that a server connects, and that a node accepts.
use Rattle.std.specs.Prelude.{◌≡◌, ℕ, ◌<◌, true, cond, length, [], ◌∷◌, ◌++◌, Option, Some, None, Result, Ok, Err, nat_eq, nat_lt}
use Rattle.lat_model.specs.sessions.Calls.{Answer}
use Rattle.lat_model.specs.sessions.Sessions.{least_free}
use Rattle.lat_model.specs.circuits.Ids.{next_id}
use Rattle.lat_model.specs.circuits.Arriving.{living}
use Rattle.lat_machines.specs.values.Names.{Name}
use Rattle.lat_machines.specs.cores.Cores.{Seat, Core, Side, Doing, rests, circuit_to}
use Rattle.lat_machines.specs.cores.Books.{LineSession}
use Rattle.lat_machines.specs.server.Server.{has_room}
use Rattle.lat_queue.specs.declared.key.Key.{Key}
use Rattle.lat_lines.specs.circuits.Kept as circuits
use Rattle.lat_lines.specs.circuits.Stands.{calling}
use Rattle.lat_lines.specs.circuits.Opens.{called_core}
use Rattle.lat_lines.specs.circuits.Info.{Telling}
use Rattle.lat_lines.specs.circuits.Living.{has_room_at}
use Rattle.lat_lines.specs.declared.opening.OpenFault.{OpenFault}
use Rattle.lat_lines.specs.declared.opening.OpenFault.TheVariants.{SessionsFull, CircuitsFull, IdsOut}

-- the ids of circuit and session that the next session to an address has, or why none can be had
abbrev pub opening : Core → ℕ → Result (ℕ × ℕ) OpenFault
opening c address =
    cond (nat_eq (circuit_to c address) 0)
    (cond (nat_lt (living c.circuits) 8)
    (cond (nat_lt c.circuits.drawn 65535) (Ok (next_id c.circuits, 1)) (Err IdsOut))
    (Err CircuitsFull))
    (cond (has_room c (circuit_to c address))
    (Ok (circuit_to c address, least_free (c.circuits.circuit_at (circuit_to c address)).end.half.sessions))
    (Err SessionsFull))

-- the living circuit to an address, None where one is to be called; or why no session can be had
abbrev pub way : Core → ℕ → Result (Option ℕ) OpenFault
way c address =
    cond (nat_eq (circuit_to c address) 0)
    (cond (nat_lt (living c.circuits) 8)
    (cond (nat_lt c.circuits.drawn 65535) (Ok None) (Err IdsOut))
    (Err CircuitsFull))
    (cond (has_room c (circuit_to c address)) (Ok (Some (circuit_to c address))) (Err SessionsFull))

-- one may be called, or the one that lives has room
abbrev pub IsWay : circuits.Kept → Option ℕ → Type 0
IsWay k None = (circuits.IsClear k → length k.held < 8) × (k.drawn < 65535)
IsWay k (Some x) = has_room_at k x ≡ true

-- one is called, where none is known
abbrev pub reaches : Side → ℕ → Name → Option ℕ → Core → Doing
reaches k address node None c = called_core k address node c
reaches k address node (Some x) c = rests c

-- its id, where the next one that is drawn has this id
abbrev pub reached : ℕ → Option ℕ → ℕ
reached next None = next
reached next (Some x) = x

-- a line has this session from now on
abbrev pub seated_core : Core → Seat → Core
seated_core c s = record c { seats = c.seats ++ s ∷ [] }

-- the asked session of this id is accepted for a line
abbrev pub accepted_core : Side → ℕ → ℕ → ℕ → Core → Core
accepted_core k line x id c =
    let d : Core = calling k x (Answer id) c in
    record d { seats = d.seats ++ record { line = line; circuit = x; id = id; serial = (d.circuits.circuit_at x).end.half.sessions.at_id id; key = None } ∷ [] }

-- the number of the request that a session is connected for
abbrev pub request_of : Option Key → Option ℕ
request_of None = None
request_of (Some k) = Some k.request

-- what is known of a line session when it begins
abbrev pub session_begun : ℕ → ℕ → ℕ → Name → Option ℕ → Telling → LineSession
session_begun number circuit session service request t = record {
  number = number;
  peer_address = t.peer;
  service = service;
  request = request;
  circuit = circuit;
  session = session;
  peer_circuit = t.peer_circuit;
  peer_session = t.peer_session;
  given = t.given;
  used_up = t.used;
  end = None;
}
