-- A start that the slave rejects, and one for which it has no room.
use Rattle.std.proofs.Common.{◌≡◌, refl, true, false, List, [], ◌∷◌, None}
use Rattle.lat_model.specs.sessions.Slots.{Reject, items}
use Rattle.lat_model.specs.sessions.Sessions.{held}
use Rattle.lat_model.specs.sessions.Session.{state, Free, Left}
use Rattle.lat_model.specs.sessions.Calls.{Connect, Put, Answer, RejectAsk, Close}
use Rattle.lat_model.specs.ends.Starting.{Setup}
use Rattle.lat_model.specs.circuits.Pair.{Event, Local, Time, Deliver, run, open_pair}
use Rattle.lat_model.proofs.examples.Hello.{usual, vax, hello, at_master, at_slave}

-- the slave rejects the ask with reason 4; what the master put is never framed
abbrev pub rejected : List Event
rejected =
    Local true (Connect vax None) ∷ Deliver 0 0 ∷ Deliver 1 0 ∷ Local true (Put 1 hello)
    ∷ Time true 80 ∷ Deliver 2 80 ∷ Local false (RejectAsk 1 4) ∷ Deliver 3 80 ∷ Time false 80 ∷ Deliver 4 80 ∷ Time true 160 ∷ []

reject_comes :
    ((at_master (run rejected (open_pair usual))).came ≡ Reject 1 0 4 ∷ [])
    × (state true (at_master (run rejected (open_pair usual))) ≡ Free)
    × (state false (at_slave (run rejected (open_pair usual))) ≡ Free)
    × (items (at_master (run rejected (open_pair usual))).out ≡ [])
reject_comes = (refl, refl, refl, refl)

-- One session is agreed. It is over at the master while the slave still has items to take: the next ask finds no room
abbrev pub one_session : Setup
one_session = record { timer = 8; keepalive = 20; sessions = 1; extra = 7; ceiling = 4 }

abbrev pub turned_away : List Event
turned_away =
    Local true (Connect vax None) ∷ Deliver 0 0 ∷ Deliver 1 0 ∷ Local true (Put 1 hello)
    ∷ Time true 80 ∷ Deliver 2 80 ∷ Local false (Answer 1) ∷ Deliver 3 80 ∷ Time false 80 ∷ Deliver 4 80
    ∷ Local true (Close 1) ∷ Time true 160 ∷ Deliver 5 160 ∷ Deliver 6 160 ∷ Time true 240 ∷ Deliver 7 240 ∷ Deliver 8 240
    ∷ Local true (Connect vax None) ∷ Time true 320 ∷ Deliver 9 320 ∷ Deliver 10 320 ∷ []

no_room :
    (state false ((run turned_away (open_pair one_session)).slave.half.sessions.session 1) ≡ Left)
    × (state true ((run turned_away (open_pair one_session)).master.half.sessions.session 1) ≡ Free)
    × ((at_master (run turned_away (open_pair one_session))).came ≡ Reject 1 0 7 ∷ [])
    × (state true (at_master (run turned_away (open_pair one_session))) ≡ Free)
    × (held (run turned_away (open_pair one_session)).slave.half.sessions ≡ 1)
    × ((run turned_away (open_pair one_session)).master.ended ≡ None)
    × ((run turned_away (open_pair one_session)).slave.ended ≡ None)
no_room = (refl, refl, refl, refl, refl, refl, refl)
