-- What goes out of a node whose rule is a tariff.
use Rattle.std.specs.Prelude.{◌≡◌, ℕ, cond, List, [], ◌∷◌, Option, Some, None, nat_eq, find}
use Rattle.lat_base.specs.declared.event.Event as base
use Rattle.lat_base.specs.declared.outbox.OutFrame.{OutFrame}
use Rattle.lat_machines.specs.cores.Lines.{used}
use Rattle.lat_machines.specs.node.Node.{Node, node_step}
use Rattle.lat_machines.specs.values.Addresses.{everyone}
use Rattle.lat_machines.specs.values.Events.{Event, Hears, Announces}
use Rattle.lat_machines.specs.values.Frames.{Reading, Whole, OfNotice}
use Rattle.lat_machines.specs.values.Names.{Name, same}
use Rattle.lat_machines.specs.values.Notices.{Notice, AnnouncementNotice, CommandNotice, StatusNotice, SolicitNotice, ResponseNotice}
use Rattle.lat_payload.specs.Frames.{Emits}
use Rattle.lat_lines.specs.Events.{event_shown}
use Rattle.lat_node.specs.Stands.{Machine}
use Rattle.lat_tariff.specs.declared.tariff.Rule.{Rule}
use Rattle.lat_tariff.specs.Tariffs.{names, AreOwn}

-- the rule of a service
abbrev pub rule_of : {R : Type 0} → List (Rule R) → Name → Option (Rule R)
rule_of {R = R} rules service = find (λ (r : Rule R). same service r.name) rules

-- for the Response that of its service, and then all
abbrev pub response_rules : {R : Type 0} → List (Rule R) → Option (Rule R) → List (Rule R)
response_rules rules None = []
response_rules rules (Some r) = r ∷ rules

abbrev pub notice_rules : {R : Type 0} → List (Rule R) → Notice → List (Rule R)
notice_rules rules (SolicitNotice n) = response_rules rules (rule_of rules n.service)
notice_rules rules (StatusNotice n) = []
notice_rules rules (AnnouncementNotice n) = []
notice_rules rules (CommandNotice n) = []
notice_rules rules (ResponseNotice n) = []

abbrev pub reading_rules : {R : Type 0} → List (Rule R) → Reading → List (Rule R)
reading_rules rules (Whole (OfNotice n)) = notice_rules rules n
reading_rules rules reading = []

-- whose ratings go out at an event of a node that isn't halted
abbrev pub event_rules : {R : Type 0} → List (Rule R) → Event → List (Rule R)
event_rules rules Announces = rules
event_rules rules (Hears from payload k now) = cond (nat_eq from everyone) [] (reading_rules rules payload)
event_rules rules e = []

-- the rules whose ratings go out at an event, in their order: none once the node is halted
abbrev pub asked_rules : {R : Type 0} → List (Rule R) → Node → Event → List (Rule R)
asked_rules rules s e = cond s.halted [] (event_rules rules e)

-- the services of the node are those of its tariff, in their order
abbrev pub OffersTariff : {R : Type 0} → Machine (List (Rule R)) → Type 0
OffersTariff m = names m.rule ≡ m.config.services

-- the frames are the node machine's with these ratings, each of them an answer of its service's own rule at the lines then held;
-- and each frame is readable
pub record OwnFrames {R : Type 0} (may : R → ℕ → ℕ → ℕ → Type 0) (m : Machine (List (Rule R))) (e : base.Event)
    (frames : List OutFrame) : Type 0 where
  pub rates : List ℕ
  pub own : AreOwn may (used m.state.core) m.config.lines (asked_rules m.rule m.state (event_shown e)) rates
  pub adds : Emits (node_step m.config rates m.state (event_shown e)).frames [] frames
