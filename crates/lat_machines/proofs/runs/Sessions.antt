-- Whole runs with sessions, as their reports tell them: each equation holds by computation.
use Rattle.std.proofs.Common.{◌≡◌, ℕ, suc, ◌*◌, zero, refl, Bool, true, false, ◌&&◌, List, [], ◌∷◌, ◌++◌, Some, None}
use Rattle.lat_model.specs.sessions.Slots.{Start, DataA}
use Rattle.lat_model.specs.ends.End.{Fresh, Bare}
use Rattle.lat_machines.specs.values.Addresses.{everyone}
use Rattle.lat_machines.specs.values.Messages.{StartInfo, StartMessage, RunMessage, WideMessage}
use Rattle.lat_machines.specs.values.Notices.{AnnouncementNotice}
use Rattle.lat_machines.specs.values.Frames.{Value, OfCircuit, OfNotice, OutFrame, plain}
use Rattle.lat_machines.specs.values.Events.{Time, Connects, Puts, Takes, Closes, Announces}
use Rattle.lat_machines.specs.values.Answers.{Closed}
use Rattle.lat_machines.specs.cores.Books.{EndedClosed, EndedCircuit}
use Rattle.lat_machines.specs.world.Machines.{Setups, Move}
use Rattle.lat_machines.proofs.runs.Words.{vax, vax1, ts1, server_at, node_at, usual, server_of, node_of, offering, s, n, deliver, told, frames, bytes, way, unused, session, noted, shows, rated, circuit_frame, run_frame, head, hello, hi}

-- A session from the first announcement on, with five bytes
five_bytes_sent : List Move
five_bytes_sent = n Announces ∷ deliver 0 0 ∷ s (Connects 1 vax) ∷ deliver 0 1 ∷ deliver 0 2 ∷ s (Puts 1 hello) ∷ s (Time 80) ∷ deliver 80 3 ∷ deliver 80 4 ∷ n (Time 80) ∷ deliver 80 5 ∷ s (Time 160) ∷ deliver 160 6 ∷ deliver 160 7 ∷ []

five_bytes : List Move
five_bytes = five_bytes_sent ++ n (Takes 1 100) ∷ []

five_bytes_told : told offering five_bytes ≡ shows 8 (session 1 (Some 1) None (way (bytes hello) (bytes hello) 4 1) (way [] [] 4 0) ∷ []) []
unfolding five_bytes five_bytes_sent
five_bytes_told = refl

-- its frames, with their marks, numbers and contents
start_info : ℕ → ℕ → StartInfo
start_info timer keepalive = record { size = 1500; eco = 1; sessions = 64; extra = 7; timer = timer; keepalive = keepalive; facility = 0; product = 0; product_version = 0; slave = vax1; name = ts1; location = []; params = [] }

five_bytes_frames : frames offering five_bytes
    ≡ plain everyone 0 (OfNotice (AnnouncementNotice (record { timer = 30; incarnation = 1; groups = []; node = vax1; description = []; services = rated 2 vax ∷ [] })))
    ∷ circuit_frame node_at 1 (StartMessage true false 0 1 (start_info 8 20))
    ∷ circuit_frame server_at 1 (StartMessage false false 1 1 (start_info 0 0))
    ∷ run_frame node_at Fresh (head true 1 0) 1 0 (Start 0 1 4 255 vax None ∷ [])
    ∷ run_frame server_at Bare (head false 0 1) 0 1 []
    ∷ run_frame server_at Fresh (head false 1 1) 1 1 (Start 1 1 4 255 vax None ∷ [])
    ∷ run_frame node_at Fresh (head true 2 1) 2 1 (DataA 1 1 0 hello ∷ [])
    ∷ run_frame server_at Bare (head false 1 2) 1 2 []
    ∷ []
unfolding five_bytes five_bytes_sent start_info
five_bytes_frames = refl

-- With numbers of two bytes at both ends it is the same, in wide RUNs; where one end has them alone, in the usual ones
abbrev spans : Bool → Bool → Setups
spans a b = record {
  server = record (server_of []) { timing = record usual { wide = a } };
  node = record (node_of (vax ∷ [])) { timing = record usual { wide = b } };
}

two_bytes_told : (a b : Bool) → told (spans a b) five_bytes ≡ shows 8 (session 1 (Some 1) None (way (bytes hello) (bytes hello) 4 1) (way [] [] 4 0) ∷ []) []
unfolding five_bytes five_bytes_sent
two_bytes_told true true = refl
two_bytes_told true false = refl
two_bytes_told false true = refl
two_bytes_told false false = refl

-- what bears a number: true where it has two bytes
kinds : List OutFrame → List Bool
kinds [] = []
kinds (f ∷ fs) = of f.value ++ kinds fs
  where
    of : Value → List Bool
    of (OfCircuit (WideMessage h slots)) = true ∷ []
    of (OfCircuit (RunMessage h slots)) = false ∷ []
    of _ = []

two_bytes_kinds : (a b : Bool) → kinds (frames (spans a b) five_bytes) ≡ (a && b) ∷ (a && b) ∷ (a && b) ∷ (a && b) ∷ (a && b) ∷ []
unfolding five_bytes five_bytes_sent kinds
two_bytes_kinds true true = refl
two_bytes_kinds true false = refl
two_bytes_kinds false true = refl
two_bytes_kinds false false = refl

-- The same without the START and all that follows it: the node's line has no session
start_lost : List Move
start_lost = n Announces ∷ deliver 0 0 ∷ s (Connects 1 vax) ∷ s (Puts 1 hello) ∷ s (Time 80) ∷ n (Time 80) ∷ s (Time 160) ∷ n (Takes 1 100) ∷ []

start_lost_told : told offering start_lost ≡ shows 2 (session 1 None None (way (bytes hello) [] 0 0) unused ∷ []) (noted 8 Closed ∷ [])
unfolding start_lost
start_lost_told = refl

-- Both ends close: the bytes that wait are dropped, and the line connects again under the same ids
closed_and_again : List Move
closed_and_again = five_bytes_sent ++ n (Puts 1 hi) ∷ n (Time 160) ∷ s (Closes 1) ∷ n (Closes 1) ∷ s (Time 240) ∷ deliver 240 8 ∷ deliver 240 9 ∷ deliver 240 10 ∷ s (Connects 1 vax) ∷ s (Time 320) ∷ deliver 320 11 ∷ []

closed_and_again_told : told offering closed_and_again
    ≡ shows 13
    (session 1 (Some 1) (Some EndedClosed) (way (bytes hello) [] 4 1) (way (bytes hi) [] 4 1)
    ∷ session 1 (Some 1) None unused (way [] [] 4 0)
    ∷ [])
    []
unfolding closed_and_again five_bytes_sent
closed_and_again_told = refl

-- A call that nobody answers: START goes nine times, and at the ninth second the circuit ends
seconds : ℕ → ℕ → List Move
seconds k zero = []
seconds k (suc more) = s (Time (1000 * k)) ∷ seconds (suc k) more

unanswered : List Move
unanswered = n Announces ∷ deliver 0 0 ∷ s (Connects 1 vax) ∷ seconds 1 9

unanswered_told : told offering unanswered ≡ shows 10 (session 1 None (Some (EndedCircuit 6)) unused unused ∷ []) []
unfolding unanswered seconds
unanswered_told = refl

-- The node's line is shown from the acceptance on, though its reply never went out
accepted_only : List Move
accepted_only = n Announces ∷ deliver 0 0 ∷ s (Connects 1 vax) ∷ deliver 0 1 ∷ deliver 0 2 ∷ s (Time 80) ∷ deliver 80 3 ∷ []

accepted_only_told : told offering accepted_only ≡ shows 5 (session 1 (Some 1) None unused (way [] [] 4 0) ∷ []) []
unfolding accepted_only
accepted_only_told = refl

-- After the server's circuit has ended in silence, the node's end of the session goes on counting
goes_on_alone : List Move
goes_on_alone = five_bytes_sent ++ s (Time 60160) ∷ n (Puts 1 hi) ∷ n (Takes 1 2) ∷ []

goes_on_alone_told : told offering goes_on_alone
    ≡ shows 9 (session 1 (Some 1) (Some (EndedCircuit 6)) (way (bytes hello) (bytes (104 ∷ 101 ∷ [])) 4 1) (way (bytes hi) [] 4 0) ∷ []) []
unfolding goes_on_alone five_bytes_sent
goes_on_alone_told = refl
