use Rattle.std.proofs.Common.{◌≡◌, length}
use Rattle.lat_tables.specs.Commands.{unblanked}
use Rattle.lat_tables.proofs.word.unblanked.Given as goal

abbrev pub invariant-loop-rest : goal.invariant-loop-rest
invariant-loop-rest l = unblanked l.rest ≡ unblanked l.text

abbrev pub decreases-loop-rest : goal.decreases-loop-rest
decreases-loop-rest l = length l.rest
