use Rattle.std.proofs.Common.{◌≡◌, ◌++◌, take}
use Rattle.std.specs.List.{flat_map}
use Rattle.lat_log.specs.ServiceNews.{went}
use Rattle.lat_log.proofs.services.all_went.Given as goal

abbrev pub invariant-loop-service : goal.invariant-loop-service
invariant-loop-service l = l.news ≡ l.initial.news ++ flat_map (went l.now) (take l.service-index l.old)
