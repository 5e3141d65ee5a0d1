use Rattle.std.proofs.Common.{◌≡◌, take}
use Rattle.std.specs.Prelude.{map}
use Rattle.lat_log.specs.Sights.{sight_of}
use Rattle.lat_log.proofs.sight.lines_of.Given as goal

abbrev pub invariant-loop-seen : goal.invariant-loop-seen
invariant-loop-seen g l =
    let m = g.C.Core in
    (s : m.State) → m.stands l.core s → l.list.items ≡ map (sight_of (m.look_of s) (m.correspondent_of s) l.flows) (take l.seen-index l.lines)
