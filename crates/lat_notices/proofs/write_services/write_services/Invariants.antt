use Rattle.std.proofs.Common.{◌≡◌, ◌++◌, take}
use Rattle.std.specs.List.{flat_map, AllByRecursion}
use Rattle.lat_notices.specs.Services.{HasName, service_text}
use Rattle.lat_notices.proofs.write_services.write_services.Given as goal

abbrev pub invariant-loop-service : goal.invariant-loop-service
invariant-loop-service l = record {
  text : l.out ≡ l.initial.out ++ flat_map service_text (take l.service-index l.service-items);
  names : AllByRecursion HasName (take l.service-index l.service-items);
}
