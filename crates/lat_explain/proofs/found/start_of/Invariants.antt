use Rattle.std.proofs.Common.{◌≡◌, ◌≤◌, drop}
use Rattle.lat_explain.specs.Found.{start_of, word_start}
use Rattle.lat_explain.proofs.found.start_of.Given as goal

abbrev pub invariant-loop-place : goal.invariant-loop-place
invariant-loop-place l = record {
  value : start_of l.line l.at ≡ word_start (drop l.place l.line) l.place l.start l.at;
  start : l.start ≤ l.place;
  within : l.place ≤ l.at;
}
