use Rattle.std.proofs.Common.{◌≡◌, drop, length}
use Rattle.lat_tariff.specs.Tariffs as tariffs
use Rattle.lat_tariff.proofs.tariff.are_apart.Given as goal

abbrev pub invariant-loop-i : goal.invariant-loop-i
invariant-loop-i g l = record {
  far : tariffs.are_apart (drop l.i l.rules) ≡ tariffs.are_apart l.rules;
  end : l.i-end ≡ length l.rules;
}
