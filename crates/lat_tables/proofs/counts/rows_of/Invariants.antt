use Rattle.std.proofs.Common.{◌≡◌, take}
use Rattle.std.specs.Prelude.{map}
use Rattle.lat_tables.specs.Counts.{count_row}
use Rattle.lat_tables.proofs.counts.rows_of.Given as goal

abbrev pub invariant-loop-count : goal.invariant-loop-count
invariant-loop-count l = l.list.items ≡ map count_row (take l.count-index l.counts)
