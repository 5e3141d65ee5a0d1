-- What each event does with the rows that are kept.
use Rattle.std.specs.Prelude.{ℕ, zero, suc, Bool, true, false, not, cond, List, [], ◌∷◌, ◌++◌, length, drop, Option, Some, None, slice_get}
use Rattle.lat_model.specs.Lists.{updated}
use Rattle.lat_model.specs.sessions.Slots.{Item}
use Rattle.lat_machines.specs.values.Events.{Event, Hears, is_heard}
use Rattle.lat_machines.specs.values.Answers.{Answer}
use Rattle.lat_machines.specs.cores.Cores.{Seat, no_seat, Core}
use Rattle.lat_machines.specs.cores.Lines.{last_on}
use Rattle.lat_machines.specs.server.Server.{server_step}
use Rattle.lat_machines.specs.node.Node.{node_step}
use Rattle.lat_machines.specs.world.Machines.{Setups, Posted, Machines, Move, Does, HearsFrame, HearsForeign, tell, is_for_other, heard_as, is_own, happens}
use Rattle.lat_laws.specs.tales.Items.{line_of, put_by, taken_by}
use Rattle.lat_laws.specs.tales.Mates.{mate_by_ids}
use Rattle.lat_laws.specs.tales.Rows.{Figures, figures_of, RowAfter, RowsAfter}

-- the row at a place, from 1 on, is changed; none at 0
abbrev pub change : ℕ → (RowAfter → RowAfter) → List RowAfter → List RowAfter
change zero f rs = rs
change (suc k) f [] = []
change (suc zero) f (r ∷ rs) = f r ∷ rs
change (suc (suc k)) f (r ∷ rs) = r ∷ change (suc k) f rs

-- the server puts up and takes what came down, the node the other way
abbrev pub with_items : Bool → List Item → List Item → RowAfter → RowAfter
with_items true put took r = record r { put_up = r.put_up ++ put; taken_down = r.taken_down ++ took }
with_items false put took r = record r { put_down = r.put_down ++ put; taken_up = r.taken_up ++ took }

abbrev pub lines_of : Bool → RowsAfter → ℕ → ℕ
lines_of true k = k.server_lines
lines_of false k = k.node_lines

-- the newest session of a line has put and taken more
abbrev pub adds : Bool → ℕ → List Item → List Item → RowsAfter → RowsAfter
adds b line put took k = record k { rows = change (lines_of b k line) (with_items b put took) k.rows }

abbrev pub no_figures : Figures
no_figures = record { given = 0; used_up = 0; end = None }

abbrev pub new_row : Seat → RowAfter
new_row s = record {
  line = s.line;
  circuit = s.circuit;
  id = s.id;
  node_line = 0;
  put_up = [];
  taken_up = [];
  put_down = [];
  taken_down = [];
  server = no_figures;
  node = no_figures;
}

-- A line of the server gets a session: a row more, and the figures of the line's session before are written down
abbrev pub connects : Seat → Figures → RowsAfter → RowsAfter
connects s f k = record k {
  rows = change (k.server_lines s.line) (λ r. record r { server = f }) k.rows ++ new_row s ∷ [];
  server_lines = updated k.server_lines s.line (suc (length k.rows));
}

-- A line of the node gets a session, whose row is the one at this place
abbrev pub accepts : ℕ → ℕ → Figures → RowsAfter → RowsAfter
accepts line place f k = record k {
  rows = change place (λ r. record r { node_line = line }) (change (k.node_lines line) (λ r. record r { node = f }) k.rows);
  node_lines = updated k.node_lines line place;
}

-- the new sessions of an event, in order, behind those of `before`
abbrev pub connects_all : Core → List Seat → List Seat → RowsAfter → RowsAfter
connects_all c before [] k = k
connects_all c before (s ∷ ss) k = connects_all c (before ++ s ∷ []) ss (connects s (figures_of c (last_on s.line no_seat before)) k)

abbrev pub accepts_all : Setups → Machines → List Seat → List Seat → RowsAfter → RowsAfter
accepts_all u w before [] k = k
accepts_all u w before (t ∷ ts) k =
    accepts_all u w (before ++ t ∷ []) ts
    (accepts t.line (mate_by_ids u w t) (figures_of w.node.core (last_on t.line no_seat before)) k)

abbrev pub new_seats : Core → Core → List Seat
new_seats c d = drop (length c.seats) d.seats

-- one event of one of the two, between two worlds
abbrev pub rows_by : Setups → Machines → Machines → Bool → Event → Answer → RowsAfter → RowsAfter
rows_by u w x true e a k =
    connects_all x.server.core w.server.core.seats (new_seats w.server.core x.server.core)
    (adds true (line_of e) (put_by e a) (taken_by e a) k)
rows_by u w x false e a k =
    accepts_all u x w.node.core.seats (new_seats w.node.core x.node.core)
    (adds false (line_of e) (put_by e a) (taken_by e a) k)

abbrev pub answer_to : Setups → Machines → Bool → Event → List ℕ → Answer
answer_to u w true e rates = (server_step u.server w.server e).answer
answer_to u w false e rates = (node_step u.node rates w.node e).answer

abbrev pub rows_at : Setups → Machines → Bool → Event → List ℕ → RowsAfter → RowsAfter
rows_at u w b e rates k = rows_by u w (tell u w b e rates) b e (answer_to u w b e rates) k

abbrev pub rows_at_frame : Setups → Machines → ℕ → List ℕ → Option Posted → RowsAfter → RowsAfter
rows_at_frame u w now rates None k = k
rows_at_frame u w now rates (Some p) k = cond (is_for_other u p) (rows_at u w (not p.by_server) (heard_as u p now) rates k) k

-- what is kept behind a move
abbrev pub rows_after : Setups → Machines → Move → RowsAfter → RowsAfter
rows_after u w (Does b e rates) k = cond (is_heard e) k (rows_at u w b e rates k)
rows_after u w (HearsFrame i now rates) k = rows_at_frame u w now rates (slice_get w.posts i) k
rows_after u w (HearsForeign b from payload now rates) k = cond (is_own u from) k (rows_at u w b (Hears from payload None now) rates k)

abbrev pub no_rows : RowsAfter
no_rows = record { rows = []; server_lines = λ line. 0; node_lines = λ line. 0 }

-- behind all moves of a run
abbrev pub rows_after_all : Setups → List Move → Machines → RowsAfter → RowsAfter
rows_after_all u [] w k = k
rows_after_all u (m ∷ ms) w k = rows_after_all u ms (happens u w m) (rows_after u w m k)
