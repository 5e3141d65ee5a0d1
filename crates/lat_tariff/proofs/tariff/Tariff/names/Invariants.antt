use Rattle.std.proofs.Common.{◌≡◌, ◌≤◌, take, length}
use Rattle.lat_tariff.specs.Tariffs.{names}
use Rattle.lat_tariff.proofs.tariff.Tariff.names.Given as goal

abbrev pub invariant-loop-rule : goal.invariant-loop-rule
invariant-loop-rule g l = record {
  named : l.services ≡ names (take l.rule-index l.rule-items);
  count : length l.services ≡ l.rule-index;
  few : length l.rule-items ≤ 32;
}
