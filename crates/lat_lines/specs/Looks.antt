-- What lines make of what their circuits tell of their sessions.
use Rattle.std.specs.Prelude.{◌≡◌, ℕ, suc, ◌-◌, Bool, true, cond, List, [], ◌∷◌, ◌++◌, Option, Some, None, option_map, slice_set}
use Rattle.std.specs.Option.{is_some}
use Rattle.lat_base.specs.declared.book.LineSession as base
use Rattle.lat_machines.specs.cores.Books.{LineSession, EndedClosed}
use Rattle.lat_machines.specs.cores.Cores.{Core}
use Rattle.lat_machines.specs.cores.Lines.{saturated_count}
use Rattle.lat_queue.specs.declared.key.Key.{Key}
use Rattle.lat_lines.specs.circuits.Kept as circuits
use Rattle.lat_lines.specs.circuits.Stands as stands
use Rattle.lat_lines.specs.circuits.Info.{Telling, telling_of}
use Rattle.lat_lines.specs.declared.seat.Seat.{Seat}
use Rattle.lat_lines.specs.Stands.{Present, end_shown, seat_shown}

-- A session as it is told of now. Where another one is asked for under its id it has become free by both stops

abbrev pub session_closed : Telling → LineSession → LineSession
session_closed t s = record s { peer_address = t.peer; peer_circuit = t.peer_circuit; end = Some EndedClosed }

abbrev pub session_reviewed : Telling → LineSession → LineSession
session_reviewed t s = record s {
  peer_address = t.peer;
  peer_circuit = t.peer_circuit;
  peer_session = t.peer_session;
  given = t.given;
  used_up = t.used;
  end = option_map end_shown t.end;
}

abbrev pub session_after : Telling → LineSession → LineSession
session_after t s = cond t.is_asked (session_closed t s) (session_reviewed t s)

abbrev pub present_after : Core → Present → Present
present_after d p = record p { session = session_after (telling_of d p.session.circuit p.session.session) p.session }

-- the session of the line is as these circuits tell
pub record Looks (k : circuits.Kept) (old new : Seat) : Type 0 where
  pub line : new.line ≡ old.line
  pub shown : (d : Core) → stands.Stands k d → circuits.has_id old.session.circuit k ≡ true → seat_shown new ≡ present_after d (seat_shown old)

-- What is noted of those that are over, in order

abbrev pub is_over : Seat → Bool
is_over s = is_some s.session.end

abbrev pub last_after : List Seat → List (Option base.LineSession) → List (Option base.LineSession)
last_after [] ls = ls
last_after (s ∷ ss) ls = last_after ss (cond (is_over s) (slice_set ls (s.line - 1) (Some s.session)) ls)

abbrev pub finished_after : List Seat → ℕ → ℕ
finished_after [] n = n
finished_after (s ∷ ss) n = finished_after ss (cond (is_over s) (saturated_count (suc n)) n)

abbrev pub key_after : Option Key → List Key → List Key
key_after None ks = ks
key_after (Some k) ks = ks ++ k ∷ []

abbrev pub freed_after : List Seat → List Key → List Key
freed_after [] ks = ks
freed_after (s ∷ ss) ks = freed_after ss (cond (is_over s) (key_after s.key ks) ks)
