-- One end of a circuit, and what it sends.
use Rattle.std.specs.Prelude.{ℕ, suc, Bool, false, cond, List, [], ◌∷◌, ◌++◌, length, Option, Some, None, nat_eq, nat_le}
use Rattle.lat_model.specs.sessions.Slots.{Slot}
use Rattle.lat_model.specs.sessions.Sessions.{Sessions}
use Rattle.lat_model.specs.sessions.Packing.{TaggedSlot, Packing, pack}
use Rattle.lat_model.specs.Lists.{is_empty}
use Rattle.lat_model.specs.numbers.Link.{Link, Frame, showing, form_message, formed_frame, bare_frame, again_frames, window_open}
use Rattle.lat_model.specs.sessions.Calls.{Call, call}

-- a message as it goes over the wire
abbrev pub Message : Type 0
Message = List Slot

abbrev pub wire_of : List TaggedSlot → List Slot
wire_of [] = []
wire_of (o ∷ os) = o.slot ∷ wire_of os

pub data Mark : Type 0 where
  Fresh : Mark
  Again : ℕ → Mark  -- so much below the newest number
  Bare : Mark

-- what an end sends
pub data Sent : Type 0 where
  Run : Mark → Bool → Frame (List Slot) → Sent  -- the Bool asks for a reply
  CallStart : Sent
  ReplyStart : Sent
  Stopped : ℕ → Sent

-- the two parts of an end that its peer's frames bear on
pub record Half : Type 0 where
  pub link : Link (List Slot)
  pub sessions : Sessions

pub record End : Type 0 where
  pub master : Bool
  pub half : Half
  pub exists : Bool  -- a slave exists once a START was heard
  pub ended : Option ℕ  -- the reason
  pub peer : ℕ  -- the peer's circuit id, 0 where it isn't known
  pub running : Bool  -- the master: the reply was heard; the slave: it exists
  pub heard_run : Bool  -- the slave: a RUN was heard
  pub room : ℕ  -- for slots
  pub window : ℕ
  pub timer : ℕ  -- in 10 ms
  pub keepalive : ℕ  -- in seconds
  pub wide : Bool  -- its numbers have two bytes on the wire
  pub owed : Bool  -- an acknowledgement
  pub rounds : ℕ
  pub moment : ℕ  -- the latest that it was given
  pub due_at : ℕ  -- when the timer was last due
  pub heard_at : ℕ
  pub sent_at : ℕ
  pub since : ℕ  -- of the last new acknowledgement, the last round, or the first unacknowledged message
  pub start_at : ℕ  -- of the last START
  pub empty_at : ℕ  -- since when there is no session

-- an end with the frames that it sent so far in this event
pub record Step : Type 0 where
  pub end : End
  pub sent : List Sent

abbrev pub still : End → Step
still e = record { end = e; sent = [] }

abbrev pub then_do : Step → (End → Step) → Step
then_do s f = record { end = (f s.end).end; sent = s.sent ++ (f s.end).sent }

abbrev pub lives : End → Bool
lives e = elim e.ended [ None ↦ e.exists | Some r ↦ false ]

-- the circuit ends by this end itself
abbrev pub finish : ℕ → End → Step
finish r e = record { end = record e { ended = Some r }; sent = cond (nat_eq e.peer 0) [] (Stopped r ∷ []) }

-- the same, and nobody is told
abbrev pub lapse : ℕ → End → Step
lapse r e = still (record e { ended = Some r })

abbrev pub send_bare : Bool → End → Step
send_bare ask e = record {
  end = record e { half = record (e.half) { link = showing e.half.link }; owed = false; sent_at = e.moment };
  sent = Run Bare ask (bare_frame e.half.link) ∷ [];
}

abbrev pub all_known : End → Bool
all_known e = nat_le (length e.half.link.sent) e.half.link.known

abbrev pub send_message : Packing → End → Step
send_message p e = record {
  end = record e {
    half = record { link = form_message e.half.link (wire_of p.slots); sessions = p.after };
    owed = false;
    sent_at = e.moment;
    since = cond (all_known e) e.moment e.since;
  };
  sent = Run Fresh false (formed_frame e.half.link (wire_of p.slots)) ∷ [];
}

abbrev pub acknowledge : End → Step
acknowledge e = cond e.owed (send_bare false e) (still e)

abbrev pub form_packed : Packing → End → Step
form_packed p e = cond (is_empty p.slots) (acknowledge e) (send_message p e)

-- a forming occasion
abbrev pub occasion : End → Step
occasion e = cond (window_open e.window e.half.link) (form_packed (pack e.room e.half.sessions) e) (acknowledge e)

-- the marks of a round: the k-th of them from the end is k - 1 below the newest
abbrev pub marked : List (Frame (List Slot)) → List Sent
marked [] = []
marked (f ∷ fs) = Run (Again (length fs)) false f ∷ marked fs

abbrev pub send_again : End → Step
send_again e = record {
  end = record e {
    half = record (e.half) { link = showing e.half.link };
    owed = false;
    sent_at = e.moment;
    since = e.moment;
    rounds = suc e.rounds;
  };
  sent = marked (again_frames e.half.link);
}

abbrev pub send_start : End → Step
send_start e = record {
  end = record e { start_at = e.moment; sent_at = e.moment; rounds = suc e.rounds };
  sent = CallStart ∷ [];
}

-- a local call
abbrev pub call_end : Call → End → End
call_end c e = record e { half = record (e.half) { sessions = call e.half.sessions c } }
