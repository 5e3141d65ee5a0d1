use Rattle.std.proofs.Common.{◌≡◌, length}
use Rattle.lat_words.specs.Groups.{groups_of, with_pieces}
use Rattle.lat_words.proofs.GroupPieces.{pieces}
use Rattle.lat_words.proofs.groups.groups_of.Given as goal

abbrev pub invariant-loop-comma : goal.invariant-loop-comma
invariant-loop-comma l = groups_of l.text ≡ with_pieces l.mask (pieces l.rest)

abbrev pub decreases-loop-comma : goal.decreases-loop-comma
decreases-loop-comma l = length l.rest
