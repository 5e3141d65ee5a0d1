-- Which states of the node machine a node stands for.
use Rattle.std.specs.Prelude.{◌≡◌, ℕ, Bool, true, List, [], map, nat_eq}
use Rattle.std.specs.List.{list_any}
use Rattle.lat_base.specs.declared.answer.Answer.{Answer}
use Rattle.lat_base.specs.declared.event.Event.{Event}
use Rattle.lat_base.specs.declared.outbox.OutFrame.{OutFrame}
use Rattle.lat_model.specs.Lists.{Each}
use Rattle.lat_machines.specs.values.Addresses.{address}
use Rattle.lat_machines.specs.cores.Lines.{used, saturated_count}
use Rattle.lat_machines.specs.node.Node.{NodeConfig, Requested, Node, NodeStep, open_node, node_step}
use Rattle.lat_payload.specs.Frames.{Emits}
use Rattle.lat_lines.specs.AnswerValues.{answer_of}
use Rattle.lat_lines.specs.Events.{event_shown}
use Rattle.lat_lines.specs.Stands as lines
use Rattle.lat_node.specs.declared.requests.Request.{Request}
use Rattle.lat_node.specs.Kept.{Kept, config_of}
use Rattle.lat_node.specs.Places.{asked_places, AreRates}

-- a request, and whether a start was accepted for it
pub record NotedRequest : Type 0 where
  pub request : Requested
  pub accepted : Bool

abbrev pub request_shown : ℕ × Request → NotedRequest
request_shown e = record {
  request = record { id = e.0; to = address e.1.to.0; service = e.1.service };
  accepted = e.1.accepted;
}

abbrev pub request_in : Node → Requested → NotedRequest
request_in s r = record { request = r; accepted = list_any (nat_eq r.id) s.accepted }

-- a request of this id was made
abbrev pub was_made : Node → ℕ → Bool
was_made s id = list_any (λ (r : Requested). nat_eq r.id id) s.requests

-- a node stands for a state of the machine
pub record Stands {H : Type 0} (k : Kept H) (s : Node) : Type 0 where
  pub lines : lines.Stands k.lines s.core
  pub requests : map request_shown k.requests ≡ map (request_in s) s.requests
  pub accepted : Each (λ id. was_made s id ≡ true) s.accepted
  pub turned_away : k.turned_away ≡ saturated_count s.turned_away
  pub halted : k.halted ≡ s.halted

-- the machine of a configuration with a rule, and its state
pub record Machine (H : Type 0) : Type 0 where
  pub config : NodeConfig
  pub rule : H
  pub state : Node

-- the machine as it is made
abbrev pub IsMade : {H : Type 0} → Machine H → Type 0
IsMade m = m.state ≡ open_node m.config

abbrev pub opening : {H : Type 0} → Kept H → Machine H
opening k = record { config = config_of k; rule = k.rule; state = open_node (config_of k) }

pub record IsMachine {H : Type 0} (k : Kept H) (m : Machine H) : Type 0 where
  pub config : m.config ≡ config_of k
  pub rule : m.rule ≡ k.rule
  pub state : Stands k m.state

-- state and answer don't depend on the ratings
abbrev pub stepped : {H : Type 0} → Machine H → Event → NodeStep
stepped m e = node_step m.config [] m.state (event_shown e)

abbrev pub next : {H : Type 0} → Machine H → Event → Machine H
next m e = record { config = m.config; rule = m.rule; state = (stepped m e).state }

abbrev pub answered : {H : Type 0} → Machine H → Event → Answer
answered m e = answer_of (stepped m e).answer

-- the frames that may go out: the machine's, each rating in them one that the rule may give of its service at the lines then
-- held; and each of them is readable
pub record Frames {H : Type 0} (may : H → ℕ → ℕ → ℕ → ℕ → Type 0) (m : Machine H) (e : Event) (frames : List OutFrame) : Type 0 where
  pub rates : List ℕ
  pub each : AreRates (may m.rule) (used m.state.core) m.config.lines (asked_places m.config m.state (event_shown e)) rates
  pub adds : Emits (node_step m.config rates m.state (event_shown e)).frames [] frames
