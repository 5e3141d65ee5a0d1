-- The rows of the report, from what is kept and from the newest session of each line.
use Rattle.std.specs.Prelude.{ℕ, suc, cond, List, [], ◌∷◌, Some, None, nat_eq}
use Rattle.lat_machines.specs.cores.Lines.{seat_at}
use Rattle.lat_machines.specs.world.Machines.{Machines}
use Rattle.lat_machines.specs.world.Reports.{Row}
use Rattle.lat_laws.specs.tales.Rows.{Figures, figures_of, RowAfter, RowsAfter}
use Rattle.lat_laws.specs.tales.Keeping.{no_figures}

-- those of the core where the row's session is the newest of its line, else those that were written down
abbrev pub server_figures : Machines → RowsAfter → ℕ → RowAfter → Figures
server_figures w k place r = cond (nat_eq (k.server_lines r.line) place) (figures_of w.server.core (seat_at w.server.core r.line)) r.server

abbrev pub node_figures : Machines → RowsAfter → ℕ → RowAfter → Figures
node_figures w k place r =
    cond (nat_eq r.node_line 0) no_figures
    (cond (nat_eq (k.node_lines r.node_line) place) (figures_of w.node.core (seat_at w.node.core r.node_line)) r.node)

abbrev pub report_row : Machines → RowsAfter → ℕ → RowAfter → Row
report_row w k place r = record {
  line = r.line;
  node_line = cond (nat_eq r.node_line 0) None (Some r.node_line);
  ended = (server_figures w k place r).end;
  up = record { put = r.put_up; taken = r.taken_up; given = (node_figures w k place r).given; used_up = (server_figures w k place r).used_up };
  down = record { put = r.put_down; taken = r.taken_down; given = (server_figures w k place r).given; used_up = (node_figures w k place r).used_up };
}

abbrev pub report_rows_from : Machines → RowsAfter → ℕ → List RowAfter → List Row
report_rows_from w k place [] = []
report_rows_from w k place (r ∷ rs) = report_row w k (suc place) r ∷ report_rows_from w k (suc place) rs

abbrev pub report_rows : Machines → RowsAfter → List Row
report_rows w k = report_rows_from w k 0 k.rows
