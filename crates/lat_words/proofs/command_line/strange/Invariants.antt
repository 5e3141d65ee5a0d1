use Rattle.std.proofs.Common.{◌≡◌, map, drop, string_bytes}
use Rattle.std.specs.Prelude.{find}
use Rattle.lat_words.specs.CommandLine.{is_strange}
use Rattle.lat_words.proofs.command_line.strange.Given as goal

abbrev pub invariant-loop-i : goal.invariant-loop-i
invariant-loop-i l =
    find is_strange (drop 1 (map string_bytes l.words)) ≡ find is_strange (drop l.i (map string_bytes l.words))
