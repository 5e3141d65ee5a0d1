-- One end calls, connects and sends five bytes, which the other takes.
use Rattle.std.proofs.Common.{◌≡◌, ℕ, refl, true, false, List, [], ◌∷◌, ◌++◌, Some, None}
use Rattle.lat_model.specs.sessions.Slots.{Byte, Start, DataA, credits, costs}
use Rattle.lat_model.specs.sessions.Sessions.{named}
use Rattle.lat_model.specs.sessions.Session.{Session, state, Live}
use Rattle.lat_model.specs.sessions.Calls.{Connect, Put, Answer, took}
use Rattle.lat_model.specs.ends.End.{Run, CallStart, ReplyStart, Fresh, Bare}
use Rattle.lat_model.specs.ends.Starting.{Setup}
use Rattle.lat_model.specs.circuits.Pair.{Pair, Event, Local, Time, Deliver, run, open_pair}

-- the usual values
abbrev pub usual : Setup
usual = record { timer = 8; keepalive = 20; sessions = 64; extra = 7; ceiling = 4 }

-- VAX
abbrev pub vax : List ℕ
vax = 86 ∷ 65 ∷ 88 ∷ []

abbrev pub hello : List ℕ
hello = 104 ∷ 101 ∷ 108 ∷ 108 ∷ 111 ∷ []

-- START and its reply; five bytes are put; the ask, its bare acknowledgement, the reply start
abbrev pub asked : List Event
asked =
    Local true (Connect vax None) ∷ Deliver 0 0 ∷ Deliver 1 0 ∷ Local true (Put 1 hello)
    ∷ Time true 80 ∷ Deliver 2 80 ∷ Local false (Answer 1) ∷ Deliver 3 80 ∷ Time false 80 ∷ Deliver 4 80 ∷ []

-- the five bytes and their bare acknowledgement
abbrev pub greeted : List Event
greeted = asked ++ Time true 160 ∷ Deliver 5 160 ∷ Deliver 6 160 ∷ []

abbrev pub after : Pair
after = run greeted (open_pair usual)

-- the sessions of id 1 at both ends
abbrev pub at_master : Pair → Session
at_master w = named w.master.half.sessions 1

abbrev pub at_slave : Pair → Session
at_slave w = named w.slave.half.sessions 1

-- START, its reply, the master's message 1, a bare acknowledgement, the slave's message 1, the master's message 2, a bare one
seven_frames :
    after.posts
    ≡ record { by_master = true; sent = CallStart }
    ∷ record { by_master = false; sent = ReplyStart }
    ∷ record { by_master = true; sent = Run Fresh false (record { number = 1; acknowledgement = 0; body = Some (Start 0 1 4 255 vax None ∷ []) }) }
    ∷ record { by_master = false; sent = Run Bare false (record { number = 0; acknowledgement = 1; body = None }) }
    ∷ record { by_master = false; sent = Run Fresh false (record { number = 1; acknowledgement = 1; body = Some (Start 1 1 4 255 vax None ∷ []) }) }
    ∷ record { by_master = true; sent = Run Fresh false (record { number = 2; acknowledgement = 1; body = Some (DataA 1 1 0 hello ∷ []) }) }
    ∷ record { by_master = false; sent = Run Bare false (record { number = 1; acknowledgement = 2; body = None }) }
    ∷ []
seven_frames = refl

takes_hello : took after.slave.half.sessions 1 100 ≡ Byte 104 ∷ Byte 101 ∷ Byte 108 ∷ Byte 108 ∷ Byte 111 ∷ []
takes_hello = refl

-- both ends gave four credits; the master used one and the slave none
given_and_used : (credits (at_slave after).out ≡ 4) × (costs (at_master after).out ≡ 1) × (credits (at_master after).out ≡ 4) × (costs (at_slave after).out ≡ 0)
given_and_used = (refl, refl, refl, refl)

both_live : (state true (at_master after) ≡ Live) × (state false (at_slave after) ≡ Live)
both_live = (refl, refl)
