use Rattle.std.proofs.Common.{◌≡◌, ◌++◌, string_bytes, take}
use Rattle.lat_machines.specs.world.Machines.{Machines}
use Rattle.lat_laws.specs.tales.Rows.{RowsAfter}
use Rattle.lat_laws.specs.tales.Reported.{report_rows_from}
use Rattle.lat_wire.specs.report.ReportText.{rows_text}
use Rattle.lat_replay.specs.Standing.{StandsFor}
use Rattle.lat_replay.proofs.sessions.sessions_onto.Given as goal

abbrev pub invariant-loop-row : goal.invariant-loop-row
invariant-loop-row g l = record {
  place : l.place ≡ l.row-index;
  text : (w : Machines) (k : RowsAfter) → StandsFor l.wire l.roster w k → string_bytes l.out ≡ string_bytes l.initial.out ++ rows_text 1 (report_rows_from w k 0 (take l.row-index k.rows));
}
