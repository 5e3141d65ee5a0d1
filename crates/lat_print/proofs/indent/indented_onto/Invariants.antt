use Rattle.std.proofs.Common.{◌≡◌, ◌++◌, length, string_bytes}
use denote.Shadow.{shadow}
use denote.Text.{Utf8}
use Rattle.lat_print.specs.Indented.{indented}
use Rattle.lat_print.proofs.indent.indented_onto.Given as goal

abbrev pub invariant-loop-line : goal.invariant-loop-line
invariant-loop-line l = shadow (Utf8 l.rest) × (string_bytes l.text ++ indented l.rest ≡ string_bytes l.initial.text ++ indented l.printed)

abbrev pub decreases-loop-line : goal.decreases-loop-line
decreases-loop-line l = length l.rest
