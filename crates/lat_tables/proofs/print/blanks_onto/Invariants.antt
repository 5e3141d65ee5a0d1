use Rattle.std.proofs.Common.{◌≡◌, ◌++◌, string_bytes}
use Rattle.lat_tables.specs.Tables.{blanks}
use Rattle.lat_tables.proofs.print.blanks_onto.Given as goal

abbrev pub invariant-loop : goal.invariant-loop
invariant-loop l = string_bytes l.text ≡ string_bytes l.initial.text ++ blanks l.counter
