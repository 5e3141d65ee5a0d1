use Rattle.std.proofs.Common.{◌≡◌, ◌-◌}
use Rattle.lat_words.specs.Groups.{with_groups}
use Rattle.lat_words.proofs.groups.with_range.Given as goal

abbrev pub invariant-loop-group : goal.invariant-loop-group
invariant-loop-group l = l.mask ≡ with_groups l.initial.mask l.fn.first (l.group - l.fn.first)
