-- When things happen: each equation holds by computation.
use Rattle.std.proofs.Common.{◌≡◌, refl, true, List, [], ◌∷◌, ◌++◌, Some, None}
use Rattle.lat_machines.specs.values.Addresses.{everyone}
use Rattle.lat_machines.specs.values.Frames.{Malformed}
use Rattle.lat_machines.specs.values.Events.{Time, Connects, Puts, Closes, Takes, Announces}
use Rattle.lat_machines.specs.values.Answers.{NoService, Bad}
use Rattle.lat_machines.specs.world.Machines.{Move, HearsForeign}
use Rattle.lat_machines.specs.cores.Books.{EndedClosed, EndedCircuit}
use Rattle.lat_machines.proofs.runs.Words.{vax, offering, s, n, deliver, to_server, to_node, stranger_start, announcing, told, session, unused, way, bytes, noted, shows, hi}

-- A connect happens at the server's own moment: the node's clock at 90,000 doesn't make the announcement old
node_is_ahead : told offering (n Announces ∷ deliver 0 0 ∷ n (Time 90000) ∷ s (Connects 1 vax) ∷ []) ≡ shows 2 (session 1 None None unused unused ∷ []) []
node_is_ahead = refl

-- the server's does: an announcement of 30 seconds is live below 90,000. The second frame is then a Solicit
server_is_late : told offering (n Announces ∷ deliver 0 0 ∷ s (Time 90000) ∷ s (Connects 1 vax) ∷ []) ≡ shows 2 [] (noted 4 NoService ∷ [])
server_is_late = refl

server_in_time : told offering (n Announces ∷ deliver 0 0 ∷ s (Time 89999) ∷ s (Connects 1 vax) ∷ []) ≡ shows 2 (session 1 None None unused unused ∷ []) []
server_in_time = refl

-- An earlier moment counts as the last one
goes_back : told offering (n Announces ∷ deliver 0 0 ∷ s (Time 90000) ∷ s (Time 5) ∷ s (Connects 1 vax) ∷ []) ≡ shows 2 [] (noted 5 NoService ∷ [])
goes_back = refl

-- A frame that is heard moves the moment on, also one of no layout, and one from the address of everyone
moved_by_a_bad_frame : told offering (n Announces ∷ deliver 0 0 ∷ to_server 90000 (Malformed 1 0) ∷ s (Connects 1 vax) ∷ []) ≡ shows 2 [] (noted 3 (Bad 1 0) ∷ noted 4 NoService ∷ [])
moved_by_a_bad_frame = refl

moved_from_everyone : told offering (n Announces ∷ deliver 0 0 ∷ HearsForeign true everyone (announcing vax 255 [] []) 90000 [] ∷ s (Connects 1 vax) ∷ []) ≡ shows 2 [] (noted 4 NoService ∷ [])
moved_from_everyone = refl

-- A frame that wasn't sent to the server, here the node's reply to a stranger, is heard by nobody and moves nothing
not_for_the_server : told offering (n Announces ∷ deliver 0 0 ∷ to_node 0 (stranger_start 1) ∷ deliver 90000 1 ∷ s (Connects 1 vax) ∷ []) ≡ shows 3 (session 1 None None unused unused ∷ []) []
not_for_the_server = refl

-- START goes again when 1,000 ms have passed since it went last: at 1,500, which is late, and then at 2,500
starts_again : List Move
starts_again = n Announces ∷ deliver 0 0 ∷ s (Connects 1 vax) ∷ s (Time 999) ∷ []

not_yet : told offering starts_again ≡ shows 2 (session 1 None None unused unused ∷ []) []
unfolding starts_again
not_yet = refl

once_again : told offering (starts_again ++ s (Time 1500) ∷ s (Time 2499) ∷ []) ≡ shows 3 (session 1 None None unused unused ∷ []) []
unfolding starts_again
once_again = refl

twice_again : told offering (starts_again ++ s (Time 1500) ∷ s (Time 2499) ∷ s (Time 2500) ∷ []) ≡ shows 4 (session 1 None None unused unused ∷ []) []
unfolding starts_again
twice_again = refl

-- A timer of 80 that is due late, at 150, is due again at 230 and not at 160. Frames 3 and 4 bear the start slots of two
-- lines, each of which gives 4 credits
runs : List Move
runs = n Announces ∷ deliver 0 0 ∷ s (Connects 1 vax) ∷ deliver 0 1 ∷ deliver 0 2 ∷ []

not_due_before : told offering (runs ++ s (Time 79) ∷ []) ≡ shows 3 (session 1 None None unused unused ∷ []) []
unfolding runs
not_due_before = refl

late_and_not_again : told offering (runs ++ s (Time 150) ∷ s (Connects 2 vax) ∷ s (Time 160) ∷ s (Time 229) ∷ []) ≡ shows 4 (session 1 None None unused (way [] [] 4 0) ∷ session 2 None None unused unused ∷ []) []
unfolding runs
late_and_not_again = refl

due_again : told offering (runs ++ s (Time 150) ∷ s (Connects 2 vax) ∷ s (Time 160) ∷ s (Time 230) ∷ []) ≡ shows 5 (session 1 None None unused (way [] [] 4 0) ∷ session 2 None None unused (way [] [] 4 0) ∷ []) []
unfolding runs
due_again = refl

-- The node closes with two bytes under way; both stops are formed and heard, and the server's session waits to be taken
left : List Move
left =
    runs ++ s (Time 80) ∷ deliver 80 3 ∷ deliver 80 4 ∷ n (Time 80) ∷ deliver 80 5 ∷ s (Time 160) ∷ deliver 160 6
    ∷ n (Puts 1 hi) ∷ n (Time 160) ∷ deliver 160 7 ∷ n (Closes 1) ∷ n (Time 240) ∷ deliver 240 8 ∷ s (Time 240) ∷ deliver 240 9 ∷ []

-- taken then, it is closed
left_and_taken : told offering (left ++ s (Takes 1 2) ∷ []) ≡ shows 11 (session 1 (Some 1) (Some EndedClosed) (way [] [] 4 0) (way (bytes hi) (bytes hi) 4 1) ∷ []) []
unfolding left runs
left_and_taken = refl

-- where the circuit ends before, it has ended with the circuit
left_and_ended : told offering (left ++ s (Time 60240) ∷ []) ≡ shows 12 (session 1 (Some 1) (Some (EndedCircuit 6)) (way [] [] 4 0) (way (bytes hi) [] 4 1) ∷ []) []
unfolding left runs
left_and_ended = refl
