use Rattle.std.proofs.Common.{refl, sym, subst}
use Rattle.lat_replay.specs.Kept.{setups_of}
use Rattle.lat_cmd.specs.Answers.{reported}
use Rattle.lat_cmd.specs.Outcomes.{IsOutcome}
use Rattle.lat_cmd.proofs.Forming.{is_reported}
use Rattle.lat_cmd.proofs.replay.reported.Goals as goal

pub returns-clause-answer : goal.returns-clause-answer
returns-clause-answer g c = λ t stands.
    subst (λ o. IsOutcome (reported (setups_of c.args.world) t) o) (sym c.done.ensures)
    (is_reported c.args.world _ refl refl c.in_ok-text.ensures t stands)
