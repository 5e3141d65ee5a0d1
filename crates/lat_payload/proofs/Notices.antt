-- The notice that is written of a notice shown is that notice, and an outcome that a server tells has a text.
use Rattle.std.proofs.Common.{◌≡◌, refl, ap, arith}
use Rattle.lat_base.specs.declared.kept.Kept.TheVariants as kept
use Rattle.lat_notices.specs.declared.notice.Action.{Action}
use Rattle.lat_notices.specs.declared.notice.Action.TheVariants as actions
use Rattle.lat_notices.specs.declared.notice.Outcome.{Outcome}
use Rattle.lat_notices.specs.declared.notice.Outcome.TheVariants as outcomes
use Rattle.lat_notices.specs.declared.notice.Notice.{Notice}
use Rattle.lat_notices.specs.declared.notice.Notice.TheVariants as notices
use Rattle.lat_notices.specs.Outcomes.{IsOutcome}
use Rattle.lat_dir.proofs.Announcements.{announcement_back}
use Rattle.lat_queue.proofs.KeptValues.{kept_back}
use Rattle.lat_payload.specs.Notices.{action_shown, action_of, outcome_shown, outcome_of, notice_shown, notice_of, IsSendable}

pub action_back : (a : Action) → action_of (action_shown a) ≡ a
action_back actions.Ask = refl
action_back actions.Cancel = refl

pub outcome_back : (o : Outcome) → outcome_of (outcome_shown o) ≡ o
outcome_back (outcomes.Kept k) = ap outcomes.Kept (kept_back k)
outcome_back outcomes.Unknown = refl

pub notice_back : (n : Notice) → notice_of (notice_shown n) ≡ n
notice_back (notices.Announcement a) = ap notices.Announcement (announcement_back a)
notice_back (notices.Command c) = ap (λ want. notices.Command (record c { action = want })) (action_back c.action)
notice_back (notices.Status s) = ap (λ o. notices.Status (record s { outcome = o })) (outcome_back s.outcome)
notice_back (notices.Solicit s) = refl
notice_back (notices.Response r) = refl

-- a place that a queue has is above 0
pub sendable_fits : (o : Outcome) → IsSendable o → IsOutcome o
sendable_fits (outcomes.Kept (kept.Waiting place)) h = omega (arith, h.0)
sendable_fits (outcomes.Kept kept.Granted) h = tt
sendable_fits (outcomes.Kept kept.Cancelled) h = tt
sendable_fits (outcomes.Kept kept.QueueFull) h = tt
sendable_fits (outcomes.Kept kept.NoService) h = tt
sendable_fits (outcomes.Kept kept.RecordsFull) h = tt
sendable_fits (outcomes.Kept kept.Done) h = tt
sendable_fits outcomes.Unknown h = tt
