-- Circuits called, answered and refused: each equation holds by computation.
use Rattle.std.proofs.Common.{◌≡◌, ℕ, zero, suc, refl, true, false, List, [], ◌∷◌, ◌++◌, Some, None}
use Rattle.lat_machines.specs.values.Messages.{StartMessage, StopMessage}
use Rattle.lat_machines.specs.values.Events.{Hears, Time, Connects, Announces}
use Rattle.lat_machines.specs.values.Answers.{Circuit, Running, Again, Foreign, StartRefused, NoLine, Busy, SessionsFull, NotHere}
use Rattle.lat_machines.specs.cores.Books.{EndedCircuit}
use Rattle.lat_machines.specs.world.Machines.{Setups, Move}
use Rattle.lat_machines.proofs.runs.Words.{vax, vax1, server_at, node_at, usual, server_of, node_of, offering, s, n, deliver, to_server, to_node, message, stranger_info, stranger_start, announcing, rated, told, answer_of_server, answer_of_node, session, unused, way, noted, shows}

-- A START that comes again before a RUN was heard gets the same reply, and nothing afterwards
repeated_starts : List Move
repeated_starts = n Announces ∷ deliver 0 0 ∷ s (Connects 1 vax) ∷ deliver 0 1 ∷ deliver 0 1 ∷ deliver 0 1 ∷ []

replied_thrice : told offering repeated_starts ≡ shows 5 (session 1 None None unused unused ∷ []) []
unfolding repeated_starts
replied_thrice = refl

-- frame 5 is the first RUN, frame 6 the node's acknowledgement
not_replied_behind_a_run : told offering (repeated_starts ++ deliver 0 2 ∷ s (Time 80) ∷ deliver 80 5 ∷ deliver 80 1 ∷ deliver 80 1 ∷ []) ≡ shows 7 (session 1 (Some 1) None unused (way [] [] 4 0) ∷ []) []
unfolding repeated_starts
not_replied_behind_a_run = refl

-- Each of them is answered as a repeated one; the first reply makes the server's circuit run, and the others repeat it
a_start_again : answer_of_node offering repeated_starts (Hears server_at (message (StartMessage true false 0 1 stranger_info)) None 0) ≡ Circuit Again
unfolding repeated_starts
a_start_again = refl

a_reply : answer_of_server offering repeated_starts (Hears node_at (message (StartMessage false false 1 1 stranger_info)) None 0) ≡ Circuit Running
unfolding repeated_starts
a_reply = refl

a_reply_again : answer_of_server offering (repeated_starts ++ deliver 0 2 ∷ []) (Hears node_at (message (StartMessage false false 1 1 stranger_info)) None 0) ≡ Circuit Again
unfolding repeated_starts
a_reply_again = refl

a_reply_of_another_id : answer_of_server offering (repeated_starts ++ deliver 0 2 ∷ []) (Hears node_at (message (StartMessage false false 1 2 stranger_info)) None 0) ≡ Circuit Foreign
unfolding repeated_starts
a_reply_of_another_id = refl

-- Eight strangers' circuits live at the node, and the server's START is refused by STOP 7 of source 0 (frame 10). One of
-- them ends, the START goes again and is answered. Then the late STOP comes, and ends the running circuit
eight_called : ℕ → List Move
eight_called zero = []
eight_called (suc k) = to_node 0 (stranger_start (suc k)) ∷ eight_called k

refused : List Move
refused = n Announces ∷ deliver 0 0 ∷ s (Connects 1 vax) ∷ eight_called 8 ++ deliver 0 1 ∷ []

refused_told : told offering refused ≡ shows 11 (session 1 None None unused unused ∷ []) (noted 12 StartRefused ∷ [])
unfolding refused eight_called
refused_told = refl

answered_at_last : List Move
answered_at_last = refused ++ to_node 0 (message (StopMessage true false 1 8 1 [])) ∷ s (Time 1000) ∷ deliver 1000 11 ∷ deliver 1000 12 ∷ []

answered_told : told offering answered_at_last ≡ shows 13 (session 1 None None unused unused ∷ []) (noted 12 StartRefused ∷ [])
unfolding answered_at_last refused eight_called
answered_told = refl

late_refusal_told : told offering (answered_at_last ++ deliver 1000 10 ∷ []) ≡ shows 13 (session 1 None (Some (EndedCircuit 7)) unused unused ∷ []) (noted 12 StartRefused ∷ [])
unfolding answered_at_last refused eight_called
late_refusal_told = refl

-- A refused connect: the line first, then whether it has a session, then the service
abbrev many_lines : Setups
many_lines = record {
  server = record (server_of []) { lines = 3; timing = record usual { sessions = 2 } };
  node = node_of (vax ∷ []);
}

no_such_line : told many_lines (s (Connects 4 vax) ∷ s (Connects 0 vax) ∷ []) ≡ shows 0 [] (noted 1 NoLine ∷ noted 2 NoLine ∷ [])
no_such_line = refl

-- a line with a session is busy, whatever the service, and no Solicit goes out; the third session finds the circuit full
both_sessions_used : told many_lines (n Announces ∷ deliver 0 0 ∷ s (Connects 1 vax) ∷ s (Connects 1 vax1) ∷ s (Connects 2 vax) ∷ s (Connects 3 vax) ∷ []) ≡ shows 2 (session 1 None None unused unused ∷ session 2 None None unused unused ∷ []) (noted 4 Busy ∷ noted 6 SessionsFull ∷ [])
both_sessions_used = refl

-- A stranger's reply lowers the agreed number below the sessions that the server has: a third one finds it full
lowered : List Move
lowered = to_server 0 (announcing vax1 30 [] (rated 1 vax ∷ [])) ∷ s (Connects 1 vax) ∷ s (Connects 2 vax) ∷ to_server 0 (message (StartMessage false false 1 5 (record stranger_info { sessions = 1 }))) ∷ s (Connects 3 vax) ∷ []

lowered_told : told (record many_lines { server = record (many_lines.server) { timing = usual } }) lowered ≡ shows 1 (session 1 None None unused unused ∷ session 2 None None unused unused ∷ []) (noted 5 SessionsFull ∷ [])
unfolding lowered
lowered_told = refl

-- What the other machine does, one doesn't
not_at_the_node : answer_of_node offering [] (Connects 1 vax) ≡ NotHere
not_at_the_node = refl

not_at_the_server : answer_of_server offering [] Announces ≡ NotHere
not_at_the_server = refl
