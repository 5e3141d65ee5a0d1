use Rattle.std.proofs.Common.{◌++◌, ◌∙◌, ap, refl, sym, subst}
use Rattle.lat_wire.specs.report.RefusedText.{refused_text, status}
use Rattle.lat_cmd.specs.Answers.{plain}
use Rattle.lat_cmd.specs.Outcomes.{IsOutcome}
use Rattle.lat_cmd.proofs.Forming.{is_plain}
use Rattle.lat_cmd.proofs.course.refused.Goals as goal

pub returns-clause-outcome : goal.returns-clause-outcome
returns-clause-outcome g c =
    subst (λ o. IsOutcome (plain (status c.args.refused, refused_text c.args.line c.args.refused)) o) (sym c.stopped.ensures)
    (is_plain (status c.args.refused, refused_text c.args.line c.args.refused) _ c.status.ensures
    (c.in_ok-refused_onto.ensures ∙ ap (λ xs. xs ++ refused_text c.args.line c.args.refused) c.new-text.ensures.bytes) refl)
