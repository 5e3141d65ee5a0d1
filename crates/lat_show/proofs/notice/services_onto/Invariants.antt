use Rattle.std.proofs.Common.{◌≡◌, ◌++◌, string_bytes, take}
use Rattle.std.specs.List.{flat_map}
use Rattle.lat_show.specs.NoticePrinted.{service_printed}
use Rattle.lat_show.proofs.notice.services_onto.Given as goal

abbrev pub invariant-loop-service : goal.invariant-loop-service
invariant-loop-service l = string_bytes l.text ≡ string_bytes l.initial.text ++ flat_map service_printed (take l.service-index l.services)
