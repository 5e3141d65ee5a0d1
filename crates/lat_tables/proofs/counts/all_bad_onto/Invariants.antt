use Rattle.std.proofs.Common.{◌≡◌, ◌++◌, take}
use Rattle.std.specs.List.{flat_map}
use Rattle.lat_tables.specs.Counts.{bad_counts}
use Rattle.lat_tables.proofs.counts.all_bad_onto.Given as goal

abbrev pub invariant-loop-field : goal.invariant-loop-field
invariant-loop-field l = l.list.items ≡ l.initial.list.items ++ flat_map (bad_counts l.c) (take l.field-index l.fields)
