use Rattle.std.proofs.Common.{◌≡◌, take}
use Rattle.std.specs.Prelude.{fold}
use Rattle.lat_local.specs.Tables.{node_wider}
use Rattle.lat_local.proofs.tables.node_width.Given as goal

abbrev pub invariant-loop-row : goal.invariant-loop-row
invariant-loop-row l = l.width ≡ fold node_wider 4 (take l.row-index l.rows)
