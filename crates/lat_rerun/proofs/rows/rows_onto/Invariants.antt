use Rattle.std.proofs.Common.{◌≡◌, ◌++◌, string_bytes}
use Rattle.lat_rerun.specs.RowText.{rows_of}
use Rattle.lat_rerun.proofs.rows.rows_onto.Given as goal

abbrev pub invariant-loop-k : goal.invariant-loop-k
invariant-loop-k g l =
    let c = g.C.Core in
    (s : c.State) → c.stands l.core s → string_bytes l.text ≡ string_bytes l.initial.text ++ rows_of (c.look_of s) l.k
