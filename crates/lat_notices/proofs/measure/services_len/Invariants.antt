use Rattle.std.proofs.Common.{◌≡◌, ◌≤◌, ◌*◌, length, take}
use Rattle.std.specs.List.{flat_map, AllByRecursion}
use Rattle.lat_notices.specs.Services.{HasName, service_text}
use Rattle.lat_notices.proofs.measure.services_len.Given as goal

abbrev pub invariant-loop-service : goal.invariant-loop-service
invariant-loop-service l = record {
  same : l.len ≡ length (flat_map service_text (take l.service-index l.service-items));
  most : l.len ≤ 274 * l.service-index;
  names : AllByRecursion HasName (take l.service-index l.service-items);
}
