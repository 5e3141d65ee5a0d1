use Rattle.std.proofs.Common.{◌≡◌, take}
use Rattle.std.specs.Prelude.{fold}
use Rattle.lat_local.specs.Tables.{service_wider}
use Rattle.lat_local.proofs.tables.service_width.Given as goal

abbrev pub invariant-loop-row : goal.invariant-loop-row
invariant-loop-row l = l.width ≡ fold service_wider 7 (take l.row-index l.rows)
