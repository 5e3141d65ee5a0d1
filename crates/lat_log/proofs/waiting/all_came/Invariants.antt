use Rattle.std.proofs.Common.{◌≡◌, ◌++◌, take}
use Rattle.std.specs.List.{flat_map}
use Rattle.lat_log.specs.WaitingNews.{came}
use Rattle.lat_log.proofs.waiting.all_came.Given as goal

abbrev pub invariant-loop-request : goal.invariant-loop-request
invariant-loop-request l = l.news ≡ l.initial.news ++ flat_map (came l.old) (take l.request-index l.now)
