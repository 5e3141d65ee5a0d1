-- Circuits that end, and circuits of peers that lie.
use Rattle.std.proofs.Common.{◌≡◌, refl, true, false, List, [], ◌∷◌, length, map, Some, None}
use Rattle.lat_model.specs.sessions.Slots.{Byte, Start, DataA}
use Rattle.lat_model.specs.sessions.Calls.{Connect, Put, Answer, took}
use Rattle.lat_model.specs.ends.End.{Sent, Run, CallStart, ReplyStart, Stopped, Fresh, Bare}
use Rattle.lat_model.specs.ends.Starting.{Agreed}
use Rattle.lat_model.specs.circuits.Pair.{Event, Time, run, open_pair}
use Rattle.lat_model.specs.circuits.World.{Wired, World}
use Rattle.lat_model.specs.circuits.Ids.{id_behind, ids_of}
use Rattle.lat_model.specs.circuits.Events.{WorldEvent, Calls, Delivers, Injects, Locally, Times, go_on, open_world}
use Rattle.lat_model.proofs.examples.Hello.{usual, vax, hello}

-- no frame comes: START goes nine times, and the circuit ends with reason 6
abbrev pub lonely : List Event
lonely = Time true 1000 ∷ Time true 2000 ∷ Time true 3000 ∷ Time true 4000 ∷ Time true 5000 ∷ Time true 6000 ∷ Time true 7000 ∷ Time true 8000 ∷ Time true 9000 ∷ []

nine_starts : (length (run lonely (open_pair usual)).posts ≡ 9) × ((run lonely (open_pair usual)).master.ended ≡ Some 6)
nine_starts = (refl, refl)

-- what a START of the usual values tells
abbrev pub told : Agreed
told = record { sessions = 64; room = 1492; window = 8; timer = 8; keepalive = 20; wide = false }

abbrev pub sent : World → List Sent
sent w = map (λ (f : Wired). f.sent) w.frames

-- A server at 1 and a node at 2. The first START is repeated, and a START of the foreign address 9 comes in between
abbrev pub two_circuits : List WorldEvent
two_circuits =
    Calls 2 0 ∷ Delivers 0 0 told ∷ Delivers 0 0 told ∷ Injects false 9 true 0 1 0 told CallStart ∷ Delivers 2 0 told ∷ Delivers 1 0 told
    ∷ Locally true 1 (Connect vax None) ∷ Locally true 1 (Put 1 hello) ∷ Times true 1 80 ∷ Delivers 4 80 told ∷ Locally false 1 (Answer 1)
    ∷ Delivers 5 80 told ∷ Times false 1 80 ∷ Delivers 6 80 told ∷ Times true 1 160 ∷ Delivers 7 160 told ∷ []

hello_arrives : took ((go_on two_circuits (open_world 1 2 1 1 usual usual)).node.circuit_at 1).end.half.sessions 1 100 ≡ Byte 104 ∷ Byte 101 ∷ Byte 108 ∷ Byte 108 ∷ Byte 111 ∷ []
hello_arrives = refl

-- A foreign peer asks for a session and sends data without a credit: the node replies, acknowledges, and breaks the circuit
-- with reason 2
abbrev pub no_credit : List WorldEvent
no_credit =
    Injects false 10 true 0 1 0 told CallStart
    ∷ Injects false 10 true 1 1 0 told (Run Fresh false (record { number = 1; acknowledgement = 0; body = Some (Start 0 1 4 255 vax None ∷ []) }))
    ∷ Locally false 1 (Answer 1)
    ∷ Injects false 10 true 1 1 0 told (Run Fresh false (record { number = 2; acknowledgement = 0; body = Some (DataA 1 1 0 (65 ∷ []) ∷ []) }))
    ∷ []

broken_by_data :
    (sent (go_on no_credit (open_world 1 2 1 1 usual usual)) ≡ ReplyStart ∷ Run Bare false (record { number = 0; acknowledgement = 1; body = None }) ∷ Stopped 2 ∷ [])
    × (((go_on no_credit (open_world 1 2 1 1 usual usual)).node.circuit_at 1).end.ended ≡ Some 2)
broken_by_data = (refl, refl)

-- it acknowledges what was never sent: the circuit breaks, and the next frame is foreign
abbrev pub never_sent : List WorldEvent
never_sent =
    Injects false 10 true 0 1 0 told CallStart
    ∷ Injects false 10 true 1 1 0 told (Run Fresh false (record { number = 1; acknowledgement = 5; body = Some (Start 0 1 4 255 vax None ∷ []) }))
    ∷ Injects false 10 true 1 1 0 told (Run Fresh false (record { number = 2; acknowledgement = 0; body = Some (DataA 1 1 0 (65 ∷ []) ∷ []) }))
    ∷ []

broken_by_acknowledgement : sent (go_on never_sent (open_world 1 2 1 1 usual usual)) ≡ ReplyStart ∷ Stopped 2 ∷ []
broken_by_acknowledgement = refl

-- ids from 65,534 on: 1 and 2 come behind 65,535, and stand before it
wraps : (map (id_behind 65534) (0 ∷ 1 ∷ 2 ∷ 3 ∷ []) ≡ 65534 ∷ 65535 ∷ 1 ∷ 2 ∷ []) × (ids_of 65534 4 ≡ 1 ∷ 2 ∷ 65534 ∷ 65535 ∷ [])
wraps = (refl, refl)

-- ids from 1 on
from_one : ids_of 1 4 ≡ 1 ∷ 2 ∷ 3 ∷ 4 ∷ []
from_one = refl
