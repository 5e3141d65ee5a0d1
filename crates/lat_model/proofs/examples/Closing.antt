-- Sessions that end by their stops, and ids that are used again.
use Rattle.std.proofs.Common.{◌≡◌, refl, true, false, List, [], ◌∷◌, ◌++◌, length, None}
use Rattle.lat_model.specs.sessions.Slots.{Start, DataA, Stop, credits, costs}
use Rattle.lat_model.specs.sessions.Session.{state, Free, Live, Closing}
use Rattle.lat_model.specs.sessions.Calls.{Connect, Put, Answer, Close}
use Rattle.lat_model.specs.circuits.Pair.{Event, Local, Time, Deliver, run, open_pair}
use Rattle.lat_model.proofs.examples.Hello.{usual, vax, hello, greeted, at_master, at_slave}

-- The slave puts two bytes and sends them; both ends close. The master's stop comes first, and the slave's answers it. Then
-- the master connects again
abbrev pub reused : List Event
reused =
    greeted ++ Local false (Put 1 (104 ∷ 105 ∷ [])) ∷ Time false 160 ∷ Local true (Close 1) ∷ Local false (Close 1)
    ∷ Time true 240 ∷ Deliver 7 240 ∷ Deliver 8 240 ∷ Deliver 9 240 ∷ Local true (Connect vax None) ∷ Time true 320 ∷ Deliver 10 320 ∷ Local false (Answer 1) ∷ []

twelve_frames : length (run reused (open_pair usual)).posts ≡ 12
twelve_frames = refl

-- the first session: four credits given and one used, each way, and free at both ends
first_over :
    (credits ((run reused (open_pair usual)).slave.half.sessions.session 1).out ≡ 4)
    × (costs ((run reused (open_pair usual)).master.half.sessions.session 1).out ≡ 1)
    × (credits ((run reused (open_pair usual)).master.half.sessions.session 1).out ≡ 4)
    × (costs ((run reused (open_pair usual)).slave.half.sessions.session 1).out ≡ 1)
    × (state true ((run reused (open_pair usual)).master.half.sessions.session 1) ≡ Free)
    × (state false ((run reused (open_pair usual)).slave.half.sessions.session 1) ≡ Free)
first_over = (refl, refl, refl, refl, refl, refl)

-- the second session has the id 1 at both ends again; the slave gave nothing yet
id_used_again :
    ((run reused (open_pair usual)).master.half.sessions.at_id 1 ≡ 2)
    × ((run reused (open_pair usual)).slave.half.sessions.at_id 1 ≡ 2)
    × (credits (at_master (run reused (open_pair usual))).out ≡ 4)
    × (credits (at_slave (run reused (open_pair usual))).out ≡ 0)
    × (state false (at_slave (run reused (open_pair usual))) ≡ Live)
id_used_again = (refl, refl, refl, refl, refl)

-- both ends close and form their stops before either hears the other's
abbrev pub crossing : List Event
crossing = greeted ++ Local true (Close 1) ∷ Local false (Close 1) ∷ Time true 240 ∷ Time false 240 ∷ []

stops_cross :
    ((at_master (run crossing (open_pair usual))).out ≡ Start 0 1 4 255 vax None ∷ DataA 1 1 0 hello ∷ Stop 1 1 1 ∷ [])
    × ((at_slave (run crossing (open_pair usual))).out ≡ Start 1 1 4 255 vax None ∷ Stop 1 1 1 ∷ [])
    × (state true (at_master (run crossing (open_pair usual))) ≡ Closing)
    × (state false (at_slave (run crossing (open_pair usual))) ≡ Closing)
stops_cross = (refl, refl, refl, refl)

-- each hears the other's stop, and both are free; nothing broke
abbrev pub met : List Event
met = crossing ++ Deliver 7 240 ∷ Deliver 8 240 ∷ []

both_free :
    (state true (at_master (run met (open_pair usual))) ≡ Free)
    × (state false (at_slave (run met (open_pair usual))) ≡ Free)
    × ((run met (open_pair usual)).master.ended ≡ None)
    × ((run met (open_pair usual)).slave.ended ≡ None)
both_free = (refl, refl, refl, refl)
