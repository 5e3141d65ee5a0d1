-- Worlds in which the promises have something to say, by computation.
use Rattle.std.proofs.Common.{◌≡◌, refl, false, List, [], ◌∷◌, ◌++◌, None}
use Rattle.lat_model.specs.sessions.Slots.{Start, DataA}
use Rattle.lat_model.specs.Lists.{IsPrefixOf}
use Rattle.lat_machines.specs.values.Messages.{RunMessage, StartMessage}
use Rattle.lat_machines.specs.values.Events.{Time, Connects, Puts, Takes, Announces}
use Rattle.lat_machines.specs.world.Machines.{Move}
use Rattle.lat_machines.specs.world.Safe.{Shared}
use Rattle.lat_machines.proofs.runs.Words.{vax, vax1, hi, offering, s, n, deliver, to_server, message, stranger_info, announcing, rated, after, told, bytes, way, session}

-- a circuit whose reply was heard is shared
called : List Move
called = n Announces ∷ deliver 0 0 ∷ s (Connects 1 vax) ∷ deliver 0 1 ∷ deliver 0 2 ∷ []

called_is_shared : Shared offering (after offering called) 1 1
unfolding called
called_is_shared = record { names = refl; address = refl; running = refl; peer = refl }

-- A stranger announces VAX, replies from its circuit 5, accepts the session under its id 9 and sends two bytes, which the
-- line takes; it puts two bytes itself
with_stranger : List Move
with_stranger =
    to_server 0 (announcing vax1 30 [] (rated 1 vax ∷ []))
    ∷ s (Connects 1 vax)
    ∷ to_server 0 (message (StartMessage false false 1 5 stranger_info))
    ∷ s (Time 80)
    ∷ to_server 80 (message (RunMessage (record { master = false; ask = false; to = 1; from = 5; seq = 1; ack = 1 }) (Start 1 9 4 255 [] None ∷ DataA 1 9 0 hi ∷ [])))
    ∷ s (Puts 1 hi)
    ∷ s (Time 160)
    ∷ s (Takes 1 2)
    ∷ []

-- The report has nothing of the stranger's: what was taken from it was put nowhere, and the credits that it gave aren't told
stranger_told : (told offering with_stranger).sessions ≡ session 1 None None (way (bytes hi) [] 0 1) (way [] (bytes hi) 4 0) ∷ []
unfolding with_stranger
stranger_told = refl

stranger_not_in_order : IsPrefixOf (bytes hi) [] → ⊥
stranger_not_in_order p = let q : bytes hi ++ p.0 ≡ [] = p.1 in cc
