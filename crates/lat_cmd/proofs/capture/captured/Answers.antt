use Rattle.std.proofs.Common.{refl, sym, subst}
use Rattle.lat_replay.specs.Kept.{setups_of}
use Rattle.lat_cmd.specs.Answers.{captured}
use Rattle.lat_cmd.specs.Outcomes.{IsOutcome}
use Rattle.lat_cmd.proofs.Forming.{is_captured, audit_legal}
use Rattle.lat_cmd.proofs.capture.captured.Goals as goal

pub returns-clause-answer : goal.returns-clause-answer
returns-clause-answer g c = λ t stands.
    subst (λ o. IsOutcome (captured c.args.circuit (setups_of c.args.world) t) o) (sym c.done.ensures)
    (is_captured c.args.world c.wire.result.now c.args.circuit _ c.wire.ensures refl refl c.in_ok-text.ensures.text t stands)

pub returns-clause-legal : goal.returns-clause-legal
returns-clause-legal g c = audit_legal c.args.world c.wire.result.now c.args.circuit c.wire.ensures c.in_ok-text.ensures.legal
