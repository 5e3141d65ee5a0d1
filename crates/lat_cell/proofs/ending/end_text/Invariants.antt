use Rattle.std.proofs.Common.{◌≡◌, ◌+◌, ◌++◌, drop, string_bytes}
use Rattle.lat_cell.specs.EndText.{lines_text, end_text}
use Rattle.lat_cell.proofs.ending.end_text.Given as goal

abbrev pub invariant-loop-done : goal.invariant-loop-done
invariant-loop-done g l = record {
  number : l.k ≡ l.done-index + 1;
  text : string_bytes l.text ++ lines_text l.k l.cell.history (drop l.done-index l.ends) ≡ end_text l.cell.history l.ends;
}
