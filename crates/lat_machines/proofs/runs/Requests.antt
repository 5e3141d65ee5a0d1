-- Requests and grants, and the names and places in them: each equation holds by computation.
use Rattle.std.proofs.Common.{◌≡◌, ℕ, refl, true, false, List, [], ◌∷◌, ◌++◌, Some, None}
use Rattle.lat_machines.specs.values.Names.{Name}
use Rattle.lat_machines.specs.values.Messages.{StartMessage}
use Rattle.lat_machines.specs.values.Notices.{Waiting, Granted, Cancelled, QueueFull, NoService, RecordsFull, Done, Outcome, KeptAs, Action, Ask, Cancel, StatusNotice, CommandNotice}
use Rattle.lat_machines.specs.values.Frames.{OfNotice, OutFrame, plain}
use Rattle.lat_machines.specs.server.Queue.{QueueEvent, Asks, Cancels, Grants}
use Rattle.lat_machines.specs.server.Records.{record_at}
use Rattle.lat_machines.specs.values.Events.{Hears, Time, Closes, Requests, Withdraws}
use Rattle.lat_machines.specs.values.Answers.{KeptIs, NotKept, Closed, IdUsed}
use Rattle.lat_machines.specs.cores.Books.{EndedClosed}
use Rattle.lat_machines.specs.world.Machines.{Setups, Move, is_noted}
use Rattle.lat_machines.proofs.runs.Words.{prn, small_prn, vax1, small_vax1, ts1, server_at, node_at, stranger, server_of, node_of, printing, s, n, deliver, to_server, commanding, told, frames, answer_of_server, session, unused, way, noted, key, request, circuit_frame}

-- Three requests for one line: granted, cancelled while it waits, and granted when the first session is over
three_requests : List Move
three_requests = n (Requests server_at 1 prn) ∷ deliver 0 0 ∷ n (Requests server_at 2 prn) ∷ n (Requests server_at 3 prn) ∷ deliver 0 4 ∷ deliver 0 5 ∷ n (Withdraws 2) ∷ deliver 0 8 ∷ n (Requests server_at 1 prn) ∷ deliver 0 10 ∷ deliver 0 3 ∷ deliver 0 12 ∷ s (Time 80) ∷ deliver 80 13 ∷ n (Time 80) ∷ deliver 80 15 ∷ n (Closes 1) ∷ n (Time 160) ∷ deliver 160 16 ∷ s (Time 160) ∷ []

three_requests_told : told (printing prn) three_requests ≡ record {
  frames = 19;
  sessions = session 2 (Some 1) (Some EndedClosed) (way [] [] 4 0) (way [] [] 4 0) ∷ session 2 None None unused unused ∷ [];
  requests = request 1 prn Done ∷ request 2 prn Cancelled ∷ request 3 prn Granted ∷ [];
  granted = key 1 ∷ key 3 ∷ [];
  noted = [];
}
unfolding three_requests
three_requests_told = refl

-- the second event sends Status waiting, Status granted and START
status : ℕ → ℕ → Outcome → Name → OutFrame
status to id outcome node = plain to 0 (OfNotice (StatusNotice (record { incarnation = 1; request = id; outcome = outcome; node = node })))

command : ℕ → Action → Name → OutFrame
command id action service = plain server_at 0 (OfNotice (CommandNotice (record { incarnation = 1; request = id; action = action; node = vax1; service = service })))

first_grant_frames : frames (printing prn) (n (Requests server_at 1 prn) ∷ deliver 0 0 ∷ [])
    ≡ command 1 Ask prn
    ∷ status node_at 1 (KeptAs (Waiting 1)) vax1
    ∷ status node_at 1 (KeptAs Granted) vax1
    ∷ circuit_frame node_at 1 (StartMessage true false 0 1 (record { size = 1500; eco = 1; sessions = 64; extra = 7; timer = 8; keepalive = 20; facility = 0; product = 0; product_version = 0; slave = vax1; name = ts1; location = []; params = [] }))
    ∷ []
unfolding command status
first_grant_frames = refl

-- The server offers the service in small letters. The start slot bears the name as it is offered, and the node takes it
-- as what it had requested
small_letters : List Move
small_letters = n (Requests server_at 1 prn) ∷ deliver 0 0 ∷ deliver 0 3 ∷ deliver 0 4 ∷ s (Time 80) ∷ deliver 80 5 ∷ []

small_letters_told : told (printing small_prn) small_letters ≡ record {
  frames = 7;
  sessions = session 2 (Some 1) None unused (way [] [] 4 0) ∷ [];
  requests = request 1 prn Granted ∷ [];
  granted = key 1 ∷ [];
  noted = [];
}
unfolding small_letters
small_letters_told = refl

-- The first command is lost, and the second is spelled otherwise: it is no other request (the id isn't refused), the
-- record has the name as first heard, and the cancel bears that of the first command
spelled_otherwise : List Move
spelled_otherwise = n (Requests server_at 1 prn) ∷ n (Requests server_at 1 small_prn) ∷ n (Withdraws 1) ∷ deliver 0 1 ∷ []

spelled_otherwise_told : told (printing prn) spelled_otherwise ≡ record {
  frames = 6;
  sessions = session 2 None None unused unused ∷ [];
  requests = request 1 small_prn Granted ∷ [];
  granted = key 1 ∷ [];
  noted = [];
}
unfolding spelled_otherwise
spelled_otherwise_told = refl

commands_spelled : frames (printing prn) (n (Requests server_at 1 prn) ∷ n (Requests server_at 1 small_prn) ∷ n (Withdraws 1) ∷ [])
    ≡ command 1 Ask prn ∷ command 1 Ask small_prn ∷ command 1 Cancel prn ∷ []
unfolding command
commands_spelled = refl

-- An id that was requested at another server, or with another service, is refused; so is a cancel of an id that wasn't
ids_refused_told : told (printing prn) (n (Requests server_at 1 prn) ∷ n (Requests stranger 1 prn) ∷ n (Requests server_at 1 vax1) ∷ n (Withdraws 2) ∷ []) ≡ record {
  frames = 1;
  sessions = [];
  requests = [];
  granted = [];
  noted = noted 2 IdUsed ∷ noted 3 IdUsed ∷ noted 4 Closed ∷ [];
}
ids_refused_told = refl

-- Two offers of one service, under two spellings, are one service of the queue. The third request waits at place 1
twice_offered : Setups
twice_offered = record { server = server_of (record { line = 1; service = prn } ∷ record { line = 2; service = small_prn } ∷ []); node = node_of [] }

three_for_two : List Move
three_for_two = n (Requests server_at 1 prn) ∷ deliver 0 0 ∷ n (Requests server_at 2 small_prn) ∷ deliver 0 4 ∷ n (Requests server_at 3 prn) ∷ deliver 0 7 ∷ []

three_for_two_told : told twice_offered three_for_two ≡ record {
  frames = 9;
  sessions = session 1 None None unused unused ∷ session 2 None None unused unused ∷ [];
  requests = request 1 prn Granted ∷ request 2 small_prn Granted ∷ request 3 prn (Waiting 1) ∷ [];
  granted = key 1 ∷ key 2 ∷ [];
  noted = [];
}
unfolding twice_offered three_for_two
three_for_two_told = refl

-- A key is its node, whatever the case of its letters, its incarnation and its number. A repeated command is answered from
-- its record whatever its service, and a cancel without a record isn't kept
strangers_ask : List Move
strangers_ask = to_server 0 (commanding Ask vax1 1 prn) ∷ to_server 0 (commanding Ask vax1 2 prn) ∷ []

asked_again : answer_of_server (printing prn) strangers_ask (Hears stranger (commanding Ask small_vax1 2 vax1) None 0) ≡ KeptIs (Waiting 1)
unfolding strangers_ask
asked_again = refl

cancelled_by_small_letters : answer_of_server (printing prn) strangers_ask (Hears stranger (commanding Cancel small_vax1 2 prn) None 0) ≡ KeptIs Cancelled
unfolding strangers_ask
cancelled_by_small_letters = refl

cancelled_after_the_grant : answer_of_server (printing prn) strangers_ask (Hears stranger (commanding Cancel vax1 1 prn) None 0) ≡ KeptIs Granted
unfolding strangers_ask
cancelled_after_the_grant = refl

cancelled_unheard : answer_of_server (printing prn) strangers_ask (Hears stranger (commanding Cancel vax1 3 prn) None 0) ≡ NotKept
unfolding strangers_ask
cancelled_unheard = refl

not_offered : answer_of_server (printing prn) strangers_ask (Hears stranger (commanding Ask vax1 3 vax1) None 0) ≡ KeptIs NoService
unfolding strangers_ask
not_offered = refl

-- Three wait behind one that was granted, at places from 1 to 3; a cancelled place is free again, and the others move up
three_wait : List QueueEvent
three_wait = Asks (key 1) node_at prn (Waiting 1) ∷ Grants (key 1) prn ∷ Asks (key 2) node_at prn (Waiting 1) ∷ Asks (key 3) node_at prn (Waiting 2) ∷ Asks (key 4) node_at prn (Waiting 3) ∷ []

first_is_granted : record_at 0 three_wait ≡ Some (record { key = key 1; service = prn; kept = Granted; grant = Some 1 })
unfolding three_wait
first_is_granted = refl

third_waits : record_at 3 three_wait ≡ Some (record { key = key 4; service = prn; kept = Waiting 3; grant = None })
unfolding three_wait
third_waits = refl

moved_up : record_at 3 (three_wait ++ Cancels (key 2) ∷ []) ≡ Some (record { key = key 4; service = prn; kept = Waiting 2; grant = None })
unfolding three_wait
moved_up = refl

none_past_the_last : record_at 4 three_wait ≡ None
unfolding three_wait
none_past_the_last = refl

-- Of the answers to commands, only that the records are full is noted
noted_answers : (is_noted (KeptIs RecordsFull) ≡ true) × (is_noted (KeptIs QueueFull) ≡ false) × (is_noted (KeptIs NoService) ≡ false) × (is_noted NotKept ≡ false)
noted_answers = (refl, refl, refl, refl)
