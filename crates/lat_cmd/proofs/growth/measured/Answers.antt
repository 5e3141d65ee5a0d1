use Rattle.std.proofs.Common.{refl, sym, subst}
use Rattle.lat_cmd.specs.Answers.{bench_of}
use Rattle.lat_cmd.specs.Outcomes.{IsOutcome}
use Rattle.lat_cmd.proofs.Forming.{is_bench}
use Rattle.lat_cmd.proofs.growth.measured.Goals as goal

pub returns-clause-answer : goal.returns-clause-answer
returns-clause-answer g c =
    subst (λ o. IsOutcome (bench_of c.args.seed) o) (sym c.done.ensures)
    (is_bench c.args.seed c.in_ok-text.world _ refl c.in_ok-text.ensures.text refl c.in_ok-text.ensures.setups c.in_ok-text.ensures.world)
