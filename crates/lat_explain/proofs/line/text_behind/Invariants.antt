use Rattle.std.proofs.Common.{◌≡◌, ◌≤◌, ◌-◌, length}
use Rattle.lat_explain.specs.LineExplained.{text_behind}
use Rattle.lat_explain.proofs.line.text_behind.Given as goal

abbrev pub invariant-loop : goal.invariant-loop
invariant-loop l = record {
  value : text_behind l.count l.text ≡ text_behind (l.count - l.counter) l.rest;
  most : length l.rest ≤ length l.text;
}
