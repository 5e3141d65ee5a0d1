-- An event and what follows it are a step of the machine.
use Rattle.std.proofs.Common.{◌≡◌, ℕ, sym, ap, subst, ◌∙◌, List, []}
use Rattle.lat_base.specs.declared.answer.Answer as base
use Rattle.lat_base.specs.declared.event.Event as base_event
use Rattle.lat_base.specs.declared.event.Event.TheVariants as events
use Rattle.lat_base.specs.declared.outbox.OutFrame.{OutFrame}
use Rattle.lat_machines.specs.node.Node.{NodeConfig, Node, open_node, node_step}
use Rattle.lat_lines.specs.AnswerValues.{answer_shown, answer_of}
use Rattle.lat_lines.specs.Events.{event_shown}
use Rattle.lat_lines.proofs.AnswerValues.{answer_back}
use Rattle.lat_node.specs.Kept.{Kept, SameConfig, config_of}
use Rattle.lat_node.specs.Stands.{Stands, Machine, IsMachine, opening, next, answered, Frames}
use Rattle.lat_node.specs.Events.{Simulates, SimulatesRated, Rated, IsLocal, TakesNoMemory}
use Rattle.lat_node.specs.Places.{asked_places}
use Rattle.lat_node.proofs.FrameLemmas.{frames_rated, steps_quiet, act_quiet}

-- what a core promises of a step

pub stepped_state : {H : Type 0} (k middle new : Kept H) (e : base_event.Event) → ((s : Node) → Stands k s → Stands middle (node_step (config_of k) [] s (event_shown e)).state) → SameConfig k middle → ((s : Node) → Stands middle s → Stands new s) → SameConfig middle new →
    (m : Machine H) → IsMachine k m → IsMachine new (next m e)
stepped_state k middle new e done same then still m is = record {
  config = is.config ∙ sym same.config ∙ sym still.config;
  rule = is.rule ∙ sym same.rule ∙ sym still.rule;
  state = subst (λ (c : NodeConfig). Stands new (node_step c [] m.state (event_shown e)).state) (sym is.config) (then (node_step (config_of k) [] m.state (event_shown e)).state (done m.state is.state));
}

pub stepped_answer : {H : Type 0} (k : Kept H) (e : base_event.Event) (a : base.Answer) → ((s : Node) → Stands k s → answer_shown a ≡ (node_step (config_of k) [] s (event_shown e)).answer) → (m : Machine H) → IsMachine k m → a ≡ answered m e
stepped_answer k e a told m is = sym (answer_back a) ∙ ap answer_of (told m.state is.state ∙ ap (λ (c : NodeConfig). (node_step c [] m.state (event_shown e)).answer) (sym is.config))

pub stepped_frames : {H : Type 0} (may : H → ℕ → ℕ → ℕ → ℕ → Type 0) (k middle : Kept H) (e : base_event.Event) (a : base.Answer) (before after : List OutFrame) → before ≡ [] → SimulatesRated may (event_shown e) k middle a before after →
    (m : Machine H) → IsMachine k m → Frames may m e after
stepped_frames may k middle e a before after empty steps m is =
    frames_rated may k m e after is
    (subst (λ (b : List OutFrame). Rated may k m.state (λ rates. node_step (config_of k) rates m.state (event_shown e)) (asked_places (config_of k) m.state (event_shown e)) b after) empty (steps m.state is.state).2)

-- the events of `local` take no memory
pub local_act : (e : base_event.Event) → IsLocal e → TakesNoMemory e
local_act (events.Heard from payload now) l = absurd l
local_act (events.Time now) l = tt
local_act (events.Connect line service) l = tt
local_act (events.Put line bytes) l = tt
local_act (events.Set line setting) l = tt
local_act (events.Take line n) l = absurd l
local_act (events.Attend line flag) l = tt
local_act (events.Close line) l = tt
local_act (events.Request to id service) l = absurd l
local_act (events.Cancel id) l = tt
local_act events.Announce l = absurd l
local_act (events.Avoid line) l = absurd l
local_act (events.Ready line ready) l = absurd l
local_act events.Halt l = absurd l

pub acted_frames : {H : Type 0} (may : H → ℕ → ℕ → ℕ → ℕ → Type 0) (k middle : Kept H) (e : base_event.Event) (a : base.Answer) (before after : List OutFrame) → IsLocal e → before ≡ [] → Simulates (λ config s. node_step config [] s (event_shown e)) k middle a before after →
    (m : Machine H) → IsMachine k m → Frames may m e after
acted_frames may k middle e a before after local empty does =
    stepped_frames may k middle e a before after empty (steps_quiet may k middle (event_shown e) a before after (act_quiet e (local_act e local)) does)

-- where neither configuration nor rule changed it opened as it did
pub same_opening : {H : Type 0} (k l : Kept H) → SameConfig k l → opening l ≡ opening k
same_opening k l same =
    ap (λ (c : NodeConfig). record { config = c; rule = l.rule; state = open_node c }) same.config
    ∙ ap (λ r. record { config = config_of k; rule = r; state = open_node (config_of k) }) same.rule
