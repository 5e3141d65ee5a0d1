-- Timers and limits, to the millisecond and to the last one: each equation holds by computation.
use Rattle.std.proofs.Common.{◌≡◌, ℕ, zero, suc, ◌+◌, refl, true, false, List, [], ◌∷◌, ◌++◌, length, drop, Some, None}
use Rattle.lat_model.specs.sessions.Slots.{Start, DataA, Slot}
use Rattle.lat_model.specs.ends.End.{Bare, Again}
use Rattle.lat_machines.specs.values.Names.{Name}
use Rattle.lat_machines.specs.values.Messages.{Head, StopMessage, RunMessage}
use Rattle.lat_machines.specs.values.Frames.{Reading}
use Rattle.lat_machines.specs.values.Events.{Time, Connects, Puts, Sets, Closes, Announces}
use Rattle.lat_machines.specs.values.Answers.{Circuit, Broke, CircuitsFull, Accepted, Full}
use Rattle.lat_machines.specs.world.Machines.{Setups, Move, HearsForeign}
use Rattle.lat_machines.specs.world.Reports.{report}
use Rattle.lat_machines.proofs.runs.Words.{vax, server_at, node_at, offering, s, n, deliver, frames, circuit_frame, run_frame, head, hello, hi, server_of, node_of, announcing, rated, after, told, shows, noted, session, way, to_node, message, stranger, stranger_start, answer_of_server, bytes}

-- a circuit that runs, with a session that is asked for
runs : List Move
runs = n Announces ∷ deliver 0 0 ∷ s (Connects 1 vax) ∷ deliver 0 1 ∷ deliver 0 2 ∷ []

-- five bytes sent and acknowledged at 160
sent : List Move
sent = runs ++ s (Puts 1 hello) ∷ s (Time 80) ∷ deliver 80 3 ∷ deliver 80 4 ∷ n (Time 80) ∷ deliver 80 5 ∷ s (Time 160) ∷ deliver 160 6 ∷ deliver 160 7 ∷ []

asking : Head
asking = record { master = true; ask = true; to = 1; from = 1; seq = 2; ack = 1 }

-- A master that has sent nothing for its keep-alive of 20 seconds asks for an answer, and gets it
quiet_too_soon : drop 8 (frames offering (sent ++ s (Time 20159) ∷ [])) ≡ []
unfolding sent runs
quiet_too_soon = refl

quiet_asks : drop 8 (frames offering (sent ++ s (Time 20160) ∷ deliver 20160 8 ∷ []))
    ≡ run_frame node_at Bare asking 2 1 [] ∷ run_frame server_at Bare (head false 1 2) 1 2 [] ∷ []
unfolding sent runs asking
quiet_asks = refl

-- both lines close at 160, and the session is over at 240
over : List Move
over = sent ++ n (Puts 1 hi) ∷ n (Time 160) ∷ s (Closes 1) ∷ n (Closes 1) ∷ s (Time 240) ∷ deliver 240 8 ∷ deliver 240 9 ∷ deliver 240 10 ∷ []

-- A circuit without a session for the keep-alive ends with reason 3
not_idle_yet : drop 11 (frames offering (over ++ s (Time 20239) ∷ [])) ≡ run_frame node_at Bare (head true 3 3) 3 3 [] ∷ []
unfolding over sent runs
not_idle_yet = refl

idle_end : drop 12 (frames offering (over ++ s (Time 20239) ∷ s (Time 20240) ∷ [])) ≡ circuit_frame node_at 1 (StopMessage true false 1 1 3 []) ∷ []
unfolding over sent runs
idle_end = refl

-- two messages that nobody acknowledges, the first formed at 80
two_out : List Move
two_out = runs ++ s (Time 80) ∷ s (Connects 2 vax) ∷ s (Time 160) ∷ []

-- A round sends both again, 1,000 ms after the first was formed
no_round_yet : drop 5 (frames offering (two_out ++ s (Time 1079) ∷ [])) ≡ []
unfolding two_out runs
no_round_yet = refl

a_round : drop 5 (frames offering (two_out ++ s (Time 1080) ∷ []))
    ≡ run_frame node_at (Again 1) (head true 1 0) 1 0 (Start 0 1 4 255 vax None ∷ [])
    ∷ run_frame node_at (Again 0) (head true 2 0) 2 0 (Start 0 2 4 255 vax None ∷ [])
    ∷ []
unfolding two_out runs
a_round = refl

eight_rounds : List Move
eight_rounds = two_out ++ s (Time 1080) ∷ s (Time 2080) ∷ s (Time 3080) ∷ s (Time 4080) ∷ s (Time 5080) ∷ s (Time 6080) ∷ s (Time 7080) ∷ s (Time 8080) ∷ s (Time 9079) ∷ []

eight : length (frames offering eight_rounds) ≡ 21
unfolding eight_rounds two_out runs
eight = refl

-- In place of the ninth the circuit ends with reason 6
ninth : drop 21 (frames offering (eight_rounds ++ s (Time 9080) ∷ [])) ≡ circuit_frame node_at 1 (StopMessage true false 1 1 6 []) ∷ []
unfolding eight_rounds two_out runs
ninth = refl

-- A slave that hears nothing for three times the keep-alive ends with reason 6
slave_still_waits : drop 1 (frames offering (to_node 0 (stranger_start 1) ∷ n (Time 59999) ∷ [])) ≡ []
slave_still_waits = refl

slave_is_silent : drop 1 (frames offering (to_node 0 (stranger_start 1) ∷ n (Time 60000) ∷ [])) ≡ circuit_frame stranger 1 (StopMessage false false 1 1 6 []) ∷ []
slave_is_silent = refl

nine_lines : Setups
nine_lines = record { server = record (server_of []) { lines = 9 }; node = node_of [] }

own_service : ℕ → Name
own_service k = 86 ∷ (64 + k) ∷ []

-- nodes of as many addresses, each with a service of its own, and a connect to each
each_called : ℕ → List Move
each_called zero = []
each_called (suc k) = HearsForeign true (suc k) (announcing (78 ∷ (65 + k) ∷ []) 30 [] (rated 1 (own_service (suc k)) ∷ [])) 0 [] ∷ s (Connects (suc k) (own_service (suc k))) ∷ each_called k

-- Eight circuits live, and the ninth is refused
ninth_circuit : (report nine_lines (after nine_lines (each_called 9))).noted ≡ noted 18 CircuitsFull ∷ []
unfolding nine_lines each_called own_service
ninth_circuit = refl

many_bytes : ℕ → List ℕ
many_bytes zero = []
many_bytes (suc k) = 65 ∷ many_bytes k

-- Of 5,000 bytes 4,096 are accepted, and a setting behind 4,096 items is refused
accepts : answer_of_server offering runs (Puts 1 (many_bytes 5000)) ≡ Accepted 4096
unfolding runs many_bytes
accepts = refl

is_full : answer_of_server offering (runs ++ s (Puts 1 (many_bytes 4095)) ∷ s (Sets 1 (0 ∷ 0 ∷ 0 ∷ 0 ∷ 0 ∷ [])) ∷ []) (Sets 1 (0 ∷ 0 ∷ 0 ∷ 0 ∷ 0 ∷ [])) ≡ Full
unfolding runs many_bytes
is_full = refl

master_run : ℕ → List Slot → Reading
master_run seq slots = message (RunMessage (record { master = true; ask = false; to = 2; from = 1; seq = seq; ack = 0 }) slots)

-- a stranger calls beside the server's circuit and sends data without a credit
liar_beside : List Move
liar_beside = sent ++ to_node 160 (stranger_start 1) ∷ HearsForeign false stranger (master_run 1 (Start 0 1 4 255 vax None ∷ [])) 160 [] ∷ HearsForeign false stranger (master_run 2 (DataA 1 1 0 (65 ∷ []) ∷ [])) 160 [] ∷ []

-- Its own circuit breaks, and the server's session stays as it was
liar_beside_told : told offering liar_beside ≡ shows 11 (session 1 (Some 1) None (way (bytes hello) [] 4 1) (way [] [] 4 0) ∷ []) (noted 17 (Circuit (Broke 2)) ∷ [])
unfolding liar_beside sent runs master_run
liar_beside_told = refl
