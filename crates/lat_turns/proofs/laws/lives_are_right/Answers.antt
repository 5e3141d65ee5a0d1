use Rattle.std.proofs.Common.{sym, subst}
use Rattle.lat_mind.specs.Laws.{LawOfRuns}
use Rattle.lat_mind.proofs.RunLaws.{runs_are_right}
use Rattle.lat_turns.proofs.laws.lives_are_right.Goals as goal

pub returns : goal.returns
returns c = λ d life. subst LawOfRuns (sym life.tale) (runs_are_right d.kind d.turns life.run)
