-- The row of a session, from what is kept and its figures at both ends.
use Rattle.std.specs.Prelude.{option_map}
use Rattle.lat_machines.specs.world.Reports as reports
use Rattle.lat_laws.specs.tales.Rows.{Figures, RowAfter}
use Rattle.lat_lines.specs.Stands.{end_shown}
use Rattle.lat_replay.specs.declared.roster.figures.Figures as own
use Rattle.lat_replay.specs.roster.Rows.{some_line}

-- figures, as the machines know them
abbrev pub figures_shown : own.Figures → Figures
figures_shown f = record { given = f.given; used_up = f.used; end = option_map end_shown f.end }

-- the row that is told with the figures of the server and of the node
abbrev pub row_with : RowAfter → Figures → Figures → reports.Row
row_with r server node = record {
  line = r.line;
  node_line = some_line r.node_line;
  ended = server.end;
  up = record { put = r.put_up; taken = r.taken_up; given = node.given; used_up = server.used_up };
  down = record { put = r.put_down; taken = r.taken_down; given = server.given; used_up = node.used_up };
}
