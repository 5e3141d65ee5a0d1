-- What a core tells of its lines and circuits.
use Rattle.std.specs.Prelude.{ℕ, ◌-◌, Bool, cond, ◌&&◌, List, length, drop, Option, Some, None, option_map, slice_get, nat_eq}
use Rattle.std.specs.List.{list_all}
use Rattle.lat_model.specs.Lists.{upwards, keep}
use Rattle.lat_model.specs.sessions.Session.{Session, SessionState, gone, put_open, unframed}
use Rattle.lat_model.specs.sessions.Sessions.{Sessions, named, held}
use Rattle.lat_model.specs.ends.End.{End, lives}
use Rattle.lat_model.specs.circuits.Ids.{ids}
use Rattle.lat_machines.specs.values.Names.{Name}
use Rattle.lat_machines.specs.cores.Cores.{Core, Side}
use Rattle.lat_machines.specs.cores.Lines.{session_of, seat_at, has_session, line_state, waiting_at}
use Rattle.lat_machines.specs.cores.Books.{SessionEnd, LineSession, LineBook, book}

-- lines

-- the present session of a line, or the last one where none is present; None where it never had one
abbrev pub newest_in : LineBook → Option LineSession
newest_in b = elim b.present [ None ↦ b.last | Some s ↦ Some s ]

abbrev pub newest : Core → ℕ → Option LineSession
newest c line = newest_in (book c line)

abbrev pub number_in : Option LineSession → ℕ
number_in None = 0
number_in (Some s) = s.number

abbrev pub end_in : Option LineSession → Option SessionEnd
end_in None = None
end_in (Some s) = s.end

-- how many bytes a session takes
abbrev pub put_room : Session → ℕ
put_room s = cond (put_open s) (4096 - length (unframed s)) 0

-- how many a Put could take now
abbrev pub room_at : Core → ℕ → ℕ
room_at c line = cond (has_session c line) (put_room (session_of c (seat_at c line))) 0

pub record LineLook : Type 0 where
  pub newest : ℕ  -- the number of its newest session, 0 where it never had one
  pub state : SessionState
  pub waiting : ℕ
  pub room : ℕ
  pub end : Option SessionEnd  -- how its newest session ended

abbrev pub line_look : Side → Core → ℕ → LineLook
line_look k c line = record {
  newest = number_in (newest c line);
  state = line_state k c line;
  waiting = waiting_at c line;
  room = room_at c line;
  end = end_in (newest c line);
}

-- how many ids of circuits weren't drawn yet
abbrev pub ids_left : Core → ℕ
ids_left c = 65535 - c.circuits.drawn

-- whom a session is or was with, and what for
pub record Correspondent : Type 0 where
  pub peer : ℕ  -- the address
  pub service : Name
  pub request : Option ℕ

abbrev pub correspondent_in : LineSession → Correspondent
correspondent_in s = record { peer = s.peer_address; service = s.service; request = s.request }

-- of a line's newest session
abbrev pub correspondent : Core → ℕ → Option Correspondent
correspondent c line = option_map correspondent_in (newest c line)

-- circuits

-- those that live, by rising id
abbrev pub living_ids : Core → List ℕ
living_ids c = keep (λ x. lives (c.circuits.circuit_at x).end) (ids c.circuits)

-- how many of its messages the peer isn't known to have taken
abbrev pub unacknowledged : End → ℕ
unacknowledged e = length (drop e.half.link.known e.half.link.sent)

pub record CircuitLook : Type 0 where
  pub id : ℕ
  pub peer_id : ℕ
  pub peer : ℕ  -- the address
  pub name : Name  -- of the peer
  pub timer : ℕ
  pub keepalive : ℕ
  pub held : ℕ  -- how many sessions aren't free
  pub unacknowledged : ℕ
  pub rounds : ℕ

-- of one end, with its id and its peer
abbrev pub end_look : (id address : ℕ) → Name → End → CircuitLook
end_look id address name e = record {
  id = id;
  peer_id = e.peer;
  peer = address;
  name = name;
  timer = e.timer;
  keepalive = e.keepalive;
  held = held e.half.sessions;
  unacknowledged = unacknowledged e;
  rounds = e.rounds;
}

abbrev pub circuit_look : Core → ℕ → CircuitLook
circuit_look c x = end_look x (c.circuits.circuit_at x).address (c.names x) (c.circuits.circuit_at x).end

-- at a place, from 0 on; None behind the last
abbrev pub circuit_in_place : Core → ℕ → Option CircuitLook
circuit_in_place c at = option_map (circuit_look c) (slice_get (living_ids c) at)

-- each session is free or left
abbrev pub all_gone : Sessions → Bool
all_gone e = list_all (λ id. gone (named e id)) (upwards 0 64)

-- and the peer has taken all messages
abbrev pub end_drained : End → Bool
end_drained e = all_gone e.half.sessions && nat_eq (unacknowledged e) 0

-- so is each circuit that lives
abbrev pub is_drained : Core → Bool
is_drained c = list_all (λ x. end_drained (c.circuits.circuit_at x).end) (living_ids c)
