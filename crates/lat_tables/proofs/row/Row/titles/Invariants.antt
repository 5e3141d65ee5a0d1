use Rattle.std.proofs.Common.{◌≡◌, take}
use Rattle.std.specs.Prelude.{map}
use Rattle.lat_tables.specs.declared.cell.Cell.TheVariants.{Title}
use Rattle.lat_tables.proofs.row.Row.titles.Given as goal

abbrev pub invariant-loop-column : goal.invariant-loop-column
invariant-loop-column l = l.cells.items ≡ map Title (take l.column-index l.columns)
