use Rattle.std.proofs.Common.{◌≡◌, ◌≤◌, length, take, vec_len, vec_capacity}
use Rattle.lat_live.specs.Rated.{rules_from}
use Rattle.lat_live.proofs.rated.tariff_of.Given as goal

abbrev pub invariant-loop-service : goal.invariant-loop-service
invariant-loop-service l = record {
  len : vec_len l.rules ≡ l.service-index;
  room : length l.services ≤ vec_capacity l.rules;
  rules : l.rules.items ≡ rules_from l.settings 0 (take l.service-index l.services);
}
