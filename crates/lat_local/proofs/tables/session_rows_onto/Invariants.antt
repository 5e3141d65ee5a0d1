use Rattle.std.proofs.Common.{◌≡◌, ◌++◌, string_bytes, take}
use Rattle.std.specs.List.{flat_map}
use Rattle.lat_local.specs.Tables.{session_row}
use Rattle.lat_local.proofs.tables.session_rows_onto.Given as goal

abbrev pub invariant-loop-row : goal.invariant-loop-row
invariant-loop-row l = string_bytes l.text ≡ string_bytes l.initial.text ++ flat_map (session_row l.width l.nodes) (take l.row-index l.rows)
