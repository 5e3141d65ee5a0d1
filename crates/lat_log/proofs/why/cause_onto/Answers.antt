use Rattle.std.proofs.Common.{ap}
use Rattle.std.specs.Prelude.{codes}
use Rattle.lat_log.specs.Reasons.{cause_words, circuit_reason}
use Rattle.lat_log.proofs.Added.{both}
use Rattle.lat_log.proofs.why.cause_onto.Goals as goal

pub returns-in_ok-push_str-in-Stopped : goal.returns-in_ok-push_str-in-Stopped
returns-in_ok-push_str-in-Stopped c =
    both c.circuit_reason_onto.result _ _ _ (codes "by the peer, ") (circuit_reason c.in-Stopped.reason) _
    c.in_ok-push_str-in-Stopped.ensures.bytes c.circuit_reason_onto.ensures (ap cause_words c.in-Stopped.is)

pub returns-in_ok-push_str-in-Broken : goal.returns-in_ok-push_str-in-Broken
returns-in_ok-push_str-in-Broken c =
    both c.circuit_reason_onto-in-Broken.result _ _ _ (codes "by this end, ") (circuit_reason c.in-Broken.reason) _
    c.in_ok-push_str-in-Broken.ensures.bytes c.circuit_reason_onto-in-Broken.ensures (ap cause_words c.in-Broken.is)
