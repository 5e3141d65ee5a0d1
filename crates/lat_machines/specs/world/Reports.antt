-- What the report tells of a world, as values: its sessions, records, grants and noted events.
use Rattle.std.specs.Prelude.{ℕ, Bool, cond, ◌&&◌, List, [], ◌∷◌, map, length, take, Option, Some, None, nat_eq}
use Rattle.lat_model.specs.sessions.Slots.{Item, items, credits, costs}
use Rattle.lat_model.specs.sessions.Session.{Session}
use Rattle.lat_model.specs.ends.End.{End}
use Rattle.lat_machines.specs.values.Names.{Name}
use Rattle.lat_machines.specs.values.Notices.{Kept}
use Rattle.lat_machines.specs.values.Keys.{Key}
use Rattle.lat_machines.specs.server.Queue.{Request, records}
use Rattle.lat_machines.specs.server.Records.{kept_now, grants_of}
use Rattle.lat_machines.specs.cores.Cores.{Seat, no_seat}
use Rattle.lat_machines.specs.cores.Books.{SessionEnd, seat_end}
use Rattle.lat_machines.specs.cores.Lines.{end_of, session_of}
use Rattle.lat_machines.specs.world.Machines.{Setups, Machines, NotedEvent}

pub record Direction : Type 0 where
  pub put : List Item
  pub taken : List Item
  pub given : ℕ
  pub used_up : ℕ

pub record Row : Type 0 where
  pub line : ℕ
  pub node_line : Option ℕ
  pub ended : Option SessionEnd  -- None: open
  pub up : Direction
  pub down : Direction

pub record RecordRow : Type 0 where
  pub key : Key
  pub service : Name
  pub kept : Kept

pub record Report : Type 0 where
  pub frames : ℕ
  pub sessions : List Row
  pub requests : List RecordRow
  pub granted : List Key
  pub noted : List NotedEvent

-- the node's line session of a server's line session: on the circuit whose reply was heard, of the same generation
abbrev pub is_partner : Setups → Machines → Seat → Seat → Bool
is_partner u w s t =
    let m : End = end_of w.server.core s in
    nat_eq t.circuit m.peer
    && (m.running
    && (nat_eq (w.server.core.circuits.circuit_at s.circuit).address u.node.own
    && (nat_eq (w.node.core.circuits.circuit_at t.circuit).address u.server.own
    && (nat_eq (end_of w.node.core t).peer s.circuit
    && nat_eq (session_of w.node.core t).generation (session_of w.server.core s).generation))))

abbrev pub partner_in : Setups → Machines → Seat → List Seat → Seat
partner_in u w s [] = no_seat
partner_in u w s (t ∷ ts) = cond (is_partner u w s t) t (partner_in u w s ts)

abbrev pub partner : Setups → Machines → Seat → Seat
partner u w s = partner_in u w s w.node.core.seats

-- the blank session has put and heard nothing
abbrev pub line_number : Seat → Option ℕ
line_number t = cond (nat_eq t.line 0) None (Some t.line)

abbrev pub direction : Session → Session → Direction
direction a b = record {
  put = a.put;
  taken = take b.taken (items b.came);
  given = credits b.out;
  used_up = costs a.out;
}

abbrev pub row : Setups → Machines → Seat → Row
row u w s =
    let t : Seat = partner u w s in
    let a : Session = session_of w.server.core s in
    let b : Session = session_of w.node.core t in
    record {
      line = s.line;
      node_line = line_number t;
      ended = seat_end w.server.core s;
      up = direction a b;
      down = direction b a;
    }

abbrev pub record_row : Machines → Request → RecordRow
record_row w r = record { key = r.key; service = r.service; kept = kept_now w.server.queue r }

abbrev pub report : Setups → Machines → Report
report u w = record {
  frames = length w.posts;
  sessions = map (row u w) w.server.core.seats;
  requests = map (record_row w) (records w.server.queue);
  granted = grants_of w.server.queue;
  noted = w.noted;
}
