use Rattle.std.proofs.Common.{take}
use Rattle.std.specs.List.{AllByRecursion}
use Rattle.lat_notices.specs.Services.{HasShortDescription}
use Rattle.lat_notices.proofs.measure.services_ok.Given as goal

abbrev pub invariant-loop-service : goal.invariant-loop-service
invariant-loop-service l = AllByRecursion HasShortDescription (take l.service-index l.service-items)
