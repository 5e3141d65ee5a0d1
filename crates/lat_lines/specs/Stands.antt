-- Which cores the lines stand for.
use Rattle.std.specs.Prelude.{◌≡◌, ℕ, suc, ◌-◌, ◌≢◌, true, false, cond, List, [], ◌∷◌, map, length, Option, Some, None, slice_get, option_map}
use Rattle.lat_base.specs.declared.outbox.OutFrame.{OutFrame}
use Rattle.lat_base.specs.declared.book.LineSession as base
use Rattle.lat_base.specs.declared.book.LineBook as base_book
use Rattle.lat_base.specs.declared.state.SessionEnd as base_end
use Rattle.lat_base.specs.declared.state.SessionEnd.TheVariants as ends
use Rattle.lat_model.specs.Lists.{Each}
use Rattle.lat_model.specs.ends.End.{lives}
use Rattle.lat_model.specs.circuits.Ids.{is_drawn}
use Rattle.lat_machines.specs.values.Addresses.{address}
use Rattle.lat_machines.specs.values.Keys as keys
use Rattle.lat_machines.specs.cores.Books.{SessionEnd, EndedClosed, EndedRejected, EndedCircuit, LineSession, line_session, LineBook, book}
use Rattle.lat_machines.specs.cores.Cores.{Seat, Core, Doing}
use Rattle.lat_machines.specs.cores.Lines.{sessions_of, session_of, over, ended, saturated_count}
use Rattle.lat_queue.specs.Histories.{key_shown, some_key}
use Rattle.lat_stream.specs.Kept.{saturated}
use Rattle.lat_payload.specs.Frames.{Emits}
use Rattle.lat_lines.specs.circuits.Stands as circuits
use Rattle.lat_lines.specs.declared.seat.Seat as own
use Rattle.lat_lines.specs.Kept.{Kept, IsLine}
use Rattle.lat_lines.specs.Later.{IsAccepted, Unheard}

-- a line session, as the machines know it

abbrev pub end_shown : base_end.SessionEnd → SessionEnd
end_shown ends.Closed = EndedClosed
end_shown (ends.Rejected reason) = EndedRejected reason
end_shown (ends.Circuit reason) = EndedCircuit reason

abbrev pub session_shown : base.LineSession → LineSession
session_shown s = record {
  number = s.number;
  peer_address = address s.peer.0;
  service = s.service;
  request = s.request;
  circuit = s.circuit;
  session = s.session;
  peer_circuit = s.peer_circuit;
  peer_session = s.peer_session;
  given = s.given;
  used_up = s.used;
  end = option_map end_shown s.end;
}

-- as it is told: its counts stop at the greatest number of 64 bits
abbrev pub session_info : LineSession → LineSession
session_info s = record s { number = saturated s.number; given = saturated s.given; used_up = saturated s.used_up }

abbrev pub book_shown : base_book.LineBook → LineBook
book_shown b = record { present = option_map session_shown b.present; last = option_map session_shown b.last }

abbrev pub book_info : LineBook → LineBook
book_info b = record { present = option_map session_info b.present; last = option_map session_info b.last }

-- a session that a line has
pub record Present : Type 0 where
  pub line : ℕ
  pub key : Option keys.Key
  pub session : LineSession

abbrev pub seat_shown : own.Seat → Present
seat_shown s = record { line = s.line; key = some_key s.key; session = session_shown s.session }

abbrev pub seat_info : Core → ℕ → Seat → Present
seat_info c number s = record { line = s.line; key = s.key; session = session_info (line_session c number s) }

-- of these line sessions, which come behind the first n, those that aren't over
abbrev pub present : Core → ℕ → List Seat → List Present
present c n [] = []
present c n (s ∷ ss) = cond (over c s) (present c (suc n) ss) (seat_info c (suc n) s ∷ present c (suc n) ss)

abbrev pub freed_key : Option keys.Key → List keys.Key → List keys.Key
freed_key None ks = ks
freed_key (Some k) ks = k ∷ ks

-- the keys of those that were not over before and are now
abbrev pub freed_from : Core → Core → List Seat → List keys.Key
freed_from c d [] = []
freed_from c d (s ∷ ss) =
    cond (over c s) (freed_from c d ss) (cond (over d s) (freed_key s.key (freed_from c d ss)) (freed_from c d ss))

abbrev pub freed_between : Core → Core → List keys.Key
freed_between c d = freed_from c d c.seats

-- what holds of each line session of a core
pub record IsSeat (lines : ℕ) (c : Core) (s : Seat) : Type 0 where
  pub line : IsLine lines s.line
  pub drawn : is_drawn c.circuits s.circuit ≡ true
  pub session : IsAccepted (sessions_of c s) s.serial
  pub id : (session_of c s).id ≡ s.id

-- none of these line sessions is of the line
abbrev pub NoneOn : ℕ → List Seat → Type 0
NoneOn line ss = Each (λ (s : Seat). s.line ≢ line) ss

-- a line session that isn't over is the last one of its line
abbrev pub Latest : Core → List Seat → Type 0
Latest c [] = Unit {0}
Latest c (s ∷ ss) = (over c s ≡ false → NoneOn s.line ss) × Latest c ss

abbrev pub last_shown : Option (Option base.LineSession) → Option LineSession
last_shown None = None
last_shown (Some None) = None
last_shown (Some (Some s)) = Some (session_shown s)

-- the lines stand for the line sessions of the core
pub record Seated (k : Kept) (c : Core) : Type 0 where
  pub seats : map seat_shown k.seats ≡ present c 0 c.seats
  pub last : (line : ℕ) → IsLine k.lines line → last_shown (slice_get k.last (line - 1)) ≡ option_map session_info (book c line).last
  pub made : k.made ≡ saturated (length c.seats)
  pub finished : k.finished ≡ saturated_count (ended c)
  pub each : Each (IsSeat k.lines c) c.seats
  pub latest : Latest c c.seats
  pub unheard : (x : ℕ) → Unheard (c.circuits.circuit_at x).end

-- the lines and their circuits stand for the core
pub record Stands (k : Kept) (c : Core) : Type 0 where
  pub circuits : circuits.Stands k.circuits c
  pub seated : Seated k c
  pub none : lives (c.circuits.circuit_at 0).end ≡ false  -- 0 is no id

-- They did this of every core that they stood for: its frames went out in order, and the requests whose sessions became free
-- are known
pub record HasStepped (c : Core) (d : Doing) (new : Kept) (before after : List OutFrame) : Type 0 where
  pub state : Stands new d.core
  pub frames : Emits d.frames before after
  pub freed : map key_shown new.freed ≡ freed_between c d.core

abbrev pub Simulates : (Core → Doing) → (old new : Kept) → (before after : List OutFrame) → Type 0
Simulates step old new before after = (c : Core) → Stands old c → HasStepped c (step c) new before after
