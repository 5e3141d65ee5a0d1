use Rattle.std.proofs.Common.{◌≡◌, ◌++◌, length, string_bytes}
use Rattle.lat_text.specs.Lines.{lines_of}
use Rattle.lat_explain.specs.Wanted.{others_wanted}
use Rattle.lat_explain.proofs.wanted.others_onto.Given as goal

abbrev pub invariant-loop-form : goal.invariant-loop-form
invariant-loop-form l =
    string_bytes l.initial.text ++ others_wanted l.ended l.good (lines_of l.forms) ≡ string_bytes l.text ++ others_wanted l.ended l.good (lines_of l.rest)

abbrev pub decreases-loop-form : goal.decreases-loop-form
decreases-loop-form l = length l.rest
