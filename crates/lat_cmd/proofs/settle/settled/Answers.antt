use Rattle.std.proofs.Common.{refl, sym, subst, string_bytes}
use Rattle.lat_replay.specs.Kept.{setups_of}
use Rattle.lat_cmd.specs.Answers.{settled}
use Rattle.lat_cmd.specs.Outcomes.{IsOutcome}
use Rattle.lat_cmd.proofs.Rounding.{is_settled, is_unsettled}
use Rattle.lat_cmd.proofs.settle.settled.Goals as goal

pub returns-then-status-eq0-clause-answer : goal.returns-then-status-eq0-clause-answer
returns-then-status-eq0-clause-answer g c = λ t stands.
    subst (λ o. IsOutcome (settled c.args.rounds (setups_of c.args.world) t) o) (sym c.done.ensures)
    (is_settled (setups_of c.args.world) c.args.rounds c.in_ok-status.status (string_bytes c.new-text.result) c.settle_onto.new.world _
    c.new-text.ensures.bytes c.settle_onto.ensures.setups c.if-status-eq0.true refl refl t
    (c.in_ok-status.ensures.prints t stands))

pub returns-else-status-eq0-clause-answer : goal.returns-else-status-eq0-clause-answer
returns-else-status-eq0-clause-answer g c = λ t stands.
    subst (λ o. IsOutcome (settled c.args.rounds (setups_of c.args.world) t) o) (sym c.plain.ensures)
    (is_unsettled (setups_of c.args.world) c.args.rounds (string_bytes c.new-text.result) c.settle_onto.new.world _ c.new-text.ensures.bytes
    c.if-status-eq0.false refl t
    (c.in_ok-status.ensures.prints t stands))
