use Rattle.std.proofs.Common.{refl}
use Rattle.lat_replay.proofs.roster.Rows.{holds_none, shows_none}
use Rattle.lat_replay.proofs.roster.Roster.make.Goals as goal

pub invariant_of-result : goal.invariant_of-result
invariant_of-result c = holds_none 256 _ refl (c.in_ok-vec.ensures.items_if_clones_equal (λ y e. e)) (c.in_ok-vec-2.ensures.items_if_clones_equal (λ y e. e)) c.new-2.ensures

pub returns : goal.returns
returns c = shows_none 256 _ c.new.ensures.items (c.in_ok-vec.ensures.items_if_clones_equal (λ y e. e)) (c.in_ok-vec-2.ensures.items_if_clones_equal (λ y e. e)) c.new-2.ensures
