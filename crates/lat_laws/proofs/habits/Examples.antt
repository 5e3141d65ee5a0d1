-- A history with a stranger in which a slot costs a credit and the next one has none, by computation.
use Rattle.std.proofs.Common.{◌≡◌, refl, false, List, [], ◌∷◌, None}
use Rattle.lat_model.specs.sessions.Slots.{Byte, Start, costs, credits}
use Rattle.lat_model.specs.sessions.Session.{Session, unframed}
use Rattle.lat_machines.specs.values.Messages.{RunMessage, StartMessage}
use Rattle.lat_machines.specs.values.Events.{Event, Hears, Time, Connects, Puts}
use Rattle.lat_machines.specs.server.Server.{open_server}
use Rattle.lat_machines.specs.world.Histories.{server_run}
use Rattle.lat_machines.proofs.runs.Words.{vax, vax1, stranger, server_of, message, stranger_info, announcing, rated}
use Rattle.lat_laws.specs.habits.Credits.{session_on}

-- A stranger announces VAX, replies from its circuit 5, and accepts the session under its id 9 with one credit. A byte is put
-- and goes out; another one is put, and time passes
one_credit : List Event
one_credit =
    Hears stranger (announcing vax1 30 [] (rated 1 vax ∷ [])) None 0
    ∷ Connects 1 vax
    ∷ Hears stranger (message (StartMessage false false 1 5 stranger_info)) None 0
    ∷ Time 80
    ∷ Hears stranger (message (RunMessage (record { master = false; ask = false; to = 1; from = 5; seq = 1; ack = 1 }) (Start 1 9 1 255 [] None ∷ []))) None 80
    ∷ Puts 1 (104 ∷ [])
    ∷ Time 160
    ∷ Puts 1 (105 ∷ [])
    ∷ Time 240
    ∷ []

session : Session
session = session_on (server_run (server_of []) one_credit (open_server (server_of []))).core 1 1

-- the credit is used up, and the second byte waits
first_byte_goes : (costs session.out ≡ 1) × (credits session.came ≡ 1) × (unframed session ≡ Byte 105 ∷ [])
unfolding one_credit session
first_byte_goes = (refl, refl, refl)
