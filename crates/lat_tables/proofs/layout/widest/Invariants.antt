use Rattle.std.proofs.Common.{◌≡◌, take}
use Rattle.std.specs.Prelude.{max}
use Rattle.std.specs.List.{fold}
use Rattle.lat_tables.specs.Tables.{width}
use Rattle.lat_tables.proofs.layout.widest.Given as goal

abbrev pub invariant-loop-row : goal.invariant-loop-row
invariant-loop-row l = l.most ≡ fold (λ most row. max most (width l.at row)) (width l.at l.header) (take l.row-index l.rows)
