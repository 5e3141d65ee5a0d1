use Rattle.std.proofs.Common.{◌≡◌, ◌++◌, string_bytes, take}
use Rattle.std.specs.List.{flat_map}
use Rattle.lat_tables.specs.Tables.{piece}
use Rattle.lat_tables.proofs.print.pieces_onto.Given as goal

abbrev pub invariant-loop-spot : goal.invariant-loop-spot
invariant-loop-spot l = string_bytes l.text ≡ string_bytes l.initial.text ++ flat_map (piece l.row) (take l.spot-index l.spots)
