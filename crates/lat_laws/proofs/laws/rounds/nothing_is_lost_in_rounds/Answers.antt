use Rattle.lat_laws.proofs.rounds.rounds.Moves.{Reached, rounds_reach}
use Rattle.lat_laws.specs.rounds.Rounds.{rounds}
use Rattle.lat_laws.proofs.laws.rounds.nothing_is_lost_in_rounds.Goals as goal

pub returns : goal.returns
returns c = λ u now w rs g. let r : Reached u (rounds u now rs w) = rounds_reach u now w rs g in (r.lossless, (r.moves, r.there, r.short, r.calm))
