-- What a node does at a payload, from what was done of it.
use Rattle.std.proofs.Common.{◌≡◌, ℕ, refl, sym, ap, subst, ◌∙◌, true, false, cond, List, [], find, Option, Some, None, Result, IfOk, nat_eq}
use Rattle.lat_base.specs.declared.answer.Answer as base
use Rattle.lat_base.specs.declared.answer.Answer.TheVariants as answers
use Rattle.lat_base.specs.declared.field.Bad.{Bad}
use Rattle.lat_base.specs.declared.memory.Memory.{Memory}
use Rattle.lat_base.specs.declared.outbox.OutFrame.{OutFrame}
use Rattle.lat_machines.specs.values.Addresses.{everyone}
use Rattle.lat_machines.specs.values.Answers.{Ignored}
use Rattle.lat_machines.specs.values.Events.{Event, Hears}
use Rattle.lat_machines.specs.values.Frames.{Value, OfCircuit, OfNotice, Reading, Whole}
use Rattle.lat_machines.specs.values.Messages.{Message}
use Rattle.lat_machines.specs.values.Names.{Name, same}
use Rattle.lat_machines.specs.values.Notices.{Notice, AnnouncementNotice, CommandNotice, StatusNotice, SolicitNotice, ResponseNotice}
use Rattle.lat_machines.specs.cores.Cores.{at_moment}
use Rattle.lat_machines.specs.cores.Lines.{used}
use Rattle.lat_machines.specs.node.Node.{NodeConfig, Node, NodeStep, with_core, tells, solicited, hears_message, hears_notice, hears_value, node_step}
use Rattle.lat_payload.specs.Frames.{Emits}
use Rattle.lat_payload.specs.Reads.{malformed}
use Rattle.lat_lines.specs.AnswerValues.{answer_shown}
use Rattle.lat_node.specs.Kept.{Kept, config_of}
use Rattle.lat_node.specs.Stands.{Stands}
use Rattle.lat_node.specs.Events.{Simulates, SimulatesRated, Rated}
use Rattle.lat_node.specs.Places.{notice_places, reading_places, event_places, asked_places, AreRates}
use Rattle.lat_payload.proofs.Frames.{adds_none}
use Rattle.lat_node.proofs.FrameLemmas.{none_for, no_rates}

abbrev pub passed : ℕ → Node → Node
passed now s = with_core s (at_moment now s.core)

-- it went on to the moment of the frame
abbrev pub Passed : {H : Type 0} → ℕ → (old new : Kept H) → Type 0
Passed now old new = (s : Node) → Stands old s → Stands new (passed now s)

-- a step of an event, of one state
abbrev Stepped : {H : Type 0} → (H → ℕ → ℕ → ℕ → ℕ → Type 0) → Event → (old new : Kept H) → Node → base.Answer → (before after : List OutFrame) → Type 0
Stepped may e old new s answer before after =
    Stands new (node_step (config_of old) [] s e).state
    × (answer_shown answer ≡ (node_step (config_of old) [] s e).answer)
    × Rated may old s (λ rates. node_step (config_of old) rates s e) (asked_places (config_of old) s e) before after

-- one that is the same whatever the ratings, and asks for none
stepped : {H : Type 0} (may : H → ℕ → ℕ → ℕ → ℕ → Type 0) (e : Event) (k l : Kept H) (s : Node) (answer : base.Answer) (before after : List OutFrame) (t : NodeStep) →
    ((rates : List ℕ) → node_step (config_of k) rates s e ≡ t) → event_places (config_of k) e ≡ [] →
    Stands l t.state → answer_shown answer ≡ t.answer → Emits t.frames before after → Stepped may e k l s answer before after
stepped may e k l s answer before after t same none st told adds = (
  subst (λ (x : NodeStep). Stands l x.state) (sym (same [])) st,
  told ∙ ap (λ (x : NodeStep). x.answer) (sym (same [])),
  record {
    rates = [];
    each = no_rates (may k.rule) (used s.core) k.lines.lines (asked_places (config_of k) s e) (none_for s.halted (event_places (config_of k) e) none);
    frames = subst (λ (x : NodeStep). Emits x.frames before after) (sym (same [])) adds;
  },
)

-- a payload with a bad field
pub steps_bad : {H : Type 0} (may : H → ℕ → ℕ → ℕ → ℕ → Type 0) (k l : Kept H) (from now : ℕ) (reading : Reading) (bad : Bad) (before : List OutFrame) →
    Passed now k l → reading ≡ malformed bad → SimulatesRated may (Hears from reading None now) k l (answers.Bad bad) before before
steps_bad {H = H} may k l from now reading bad before p is =
    subst (λ (r : Reading). SimulatesRated may (Hears from r None now) k l (answers.Bad bad) before before) (sym is)
    (λ s st. stepped may (Hears from (malformed bad) None now) k l s (answers.Bad bad) before before (node_step (config_of k) [] s (Hears from (malformed bad) None now))
    (λ rates. refl) (none_for (nat_eq from everyone) [] refl) (p s st) refl (adds_none before))

-- a payload that reads as a value
pub steps_read : {H : Type 0} (may : H → ℕ → ℕ → ℕ → ℕ → Type 0) (k l : Kept H) (from now : ℕ) (reading : Reading) (v : Value) (result : Result base.Answer Memory) (before after : List OutFrame) →
    reading ≡ Whole v → IfOk result (λ a. SimulatesRated may (Hears from (Whole v) None now) k l a before after) → IfOk result (λ a. SimulatesRated may (Hears from reading None now) k l a before after)
steps_read may k l from now reading v result before after is steps =
    subst (λ (r : Reading). IfOk result (λ a. SimulatesRated may (Hears from r None now) k l a before after)) (sym is) steps

-- by the address of everyone

of_everyone : (config : NodeConfig) (s : Node) (from now : ℕ) (v : Value) → nat_eq from everyone ≡ true → (rates : List ℕ) → node_step config rates s (Hears from (Whole v) None now) ≡ tells (passed now s) Ignored
of_everyone config s from now v e rates = ap (λ b. cond b (tells (passed now s) Ignored) (hears_value config rates (passed now s) from v None)) e

of_station : (config : NodeConfig) (s : Node) (from now : ℕ) (v : Value) → nat_eq from everyone ≡ false → (rates : List ℕ) → node_step config rates s (Hears from (Whole v) None now) ≡ hears_value config rates (passed now s) from v None
of_station config s from now v e rates = ap (λ b. cond b (tells (passed now s) Ignored) (hears_value config rates (passed now s) from v None)) e

pub steps_everyone : {H : Type 0} (may : H → ℕ → ℕ → ℕ → ℕ → Type 0) (k l : Kept H) (from now : ℕ) (v : Value) (before : List OutFrame) →
    nat_eq from everyone ≡ true → Passed now k l → SimulatesRated may (Hears from (Whole v) None now) k l answers.Ignored before before
steps_everyone may k l from now v before e p = λ s st.
    stepped may (Hears from (Whole v) None now) k l s answers.Ignored before before (tells (passed now s) Ignored)
    (of_everyone (config_of k) s from now v e) (ap (λ b. cond b [] (reading_places (config_of k) (Whole v))) e) (p s st) refl (adds_none before)

-- a circuit message of a station
pub steps_message : {H : Type 0} (may : H → ℕ → ℕ → ℕ → ℕ → Type 0) (k l : Kept H) (from now : ℕ) (v : Value) (m : Message) (answer : base.Answer) (before after : List OutFrame) →
    v ≡ OfCircuit m → nat_eq from everyone ≡ false → Simulates (λ config s. hears_message config (with_core s (at_moment now s.core)) from m None) k l answer before after →
    SimulatesRated may (Hears from (Whole v) None now) k l answer before after
steps_message may k l from now v m answer before after is e does =
    subst (λ (x : Value). SimulatesRated may (Hears from (Whole x) None now) k l answer before after) (sym is)
    (λ s st.
    let d = does s st in
    stepped may (Hears from (Whole (OfCircuit m)) None now) k l s answer before after (hears_message (config_of k) (passed now s) from m None)
    (of_station (config_of k) s from now (OfCircuit m) e) (none_for (nat_eq from everyone) [] refl) d.0 d.1 d.2)

-- a notice of a station

state_of : (config : NodeConfig) (rates : List ℕ) (s : Node) (from id : ℕ) (o : Option Name) → s ≡ (solicited config rates s from id o).state
state_of config rates s from id None = refl
state_of config rates s from id (Some service) = refl

answer_of : (config : NodeConfig) (s t : Node) (from id : ℕ) (o : Option Name) → (solicited config [] s from id o).answer ≡ (solicited config [] t from id o).answer
answer_of config s t from id None = refl
answer_of config s t from id (Some service) = refl

frames_of : (config : NodeConfig) (rates : List ℕ) (s : Node) (now from id : ℕ) (o : Option Name) → (solicited config rates s from id o).frames ≡ (solicited config rates (passed now s) from id o).frames
frames_of config rates s now from id None = refl
frames_of config rates s now from id (Some service) = refl

-- it changes nothing, and what it does doesn't depend on the moment
record OfNotices (config : NodeConfig) (rates : List ℕ) (s : Node) (now from : ℕ) (n : Notice) : Type 0 where
  pub state : passed now s ≡ (hears_notice config rates (passed now s) from n).state
  pub answer : (hears_notice config [] s from n).answer ≡ (hears_notice config [] (passed now s) from n).answer
  pub frames : (hears_notice config rates s from n).frames ≡ (hears_notice config rates (passed now s) from n).frames

of_notices : (config : NodeConfig) (rates : List ℕ) (s : Node) (now from : ℕ) (n : Notice) → OfNotices config rates s now from n
of_notices config rates s now from (AnnouncementNotice n) = record { state = refl; answer = refl; frames = refl }
of_notices config rates s now from (CommandNotice n) = record { state = refl; answer = refl; frames = refl }
of_notices config rates s now from (StatusNotice n) = record { state = refl; answer = refl; frames = refl }
of_notices config rates s now from (ResponseNotice n) = record { state = refl; answer = refl; frames = refl }
of_notices config rates s now from (SolicitNotice n) =
    let o : Option Name = find (same n.service) config.services in
    record {
      state = state_of config rates (passed now s) from n.id o;
      answer = answer_of config s (passed now s) from n.id o;
      frames = frames_of config rates s now from n.id o;
    }

-- what was answered to it and sent, and then the moment
pub steps_notice : {H : Type 0} (may : H → ℕ → ℕ → ℕ → ℕ → Type 0) (k l : Kept H) (from now : ℕ) (n : Notice) (answer : base.Answer) (before after : List OutFrame) →
    nat_eq from everyone ≡ false → Passed now k l →
    ((s : Node) → Stands k s → answer_shown answer ≡ (hears_notice (config_of k) [] s from n).answer) →
    ((s : Node) → Stands k s → Rated may k s (λ rates. hears_notice (config_of k) rates s from n) (cond s.halted [] (notice_places (config_of k) n)) before after) →
    SimulatesRated may (Hears from (Whole (OfNotice n)) None now) k l answer before after
steps_notice {H = H} may k l from now n answer before after e p told rated s st = (
  subst (Stands l) ((of_notices (config_of k) [] s now from n).state ∙ ap (λ (x : NodeStep). x.state) (sym (is []))) (p s st),
  told s st ∙ (of_notices (config_of k) [] s now from n).answer ∙ ap (λ (x : NodeStep). x.answer) (sym (is [])),
  record {
    rates = r.rates;
    each = subst (λ b. AreRates (may k.rule) (used s.core) k.lines.lines (cond s.halted [] (cond b [] (notice_places (config_of k) n))) r.rates) (sym e) r.each;
    frames = subst (λ fs. Emits fs before after) ((of_notices (config_of k) r.rates s now from n).frames ∙ ap (λ (x : NodeStep). x.frames) (sym (is r.rates))) r.frames;
  },
)
  where
    is : (rates : List ℕ) → node_step (config_of k) rates s (Hears from (Whole (OfNotice n)) None now) ≡ hears_notice (config_of k) rates (passed now s) from n
    is = of_station (config_of k) s from now (OfNotice n) e

    r : Rated may k s (λ rates. hears_notice (config_of k) rates s from n) (cond s.halted [] (notice_places (config_of k) n)) before after
    r = rated s st

-- what asks for no ratings
pub rated_none : {H : Type 0} (may : H → ℕ → ℕ → ℕ → ℕ → Type 0) (k : Kept H) (s : Node) (t : List ℕ → NodeStep) (before : List OutFrame) → (t []).frames ≡ [] → Rated may k s t (cond s.halted [] []) before before
rated_none may k s t before none = record {
  rates = [];
  each = no_rates (may k.rule) (used s.core) k.lines.lines (cond s.halted [] []) (none_for s.halted [] refl);
  frames = subst (λ fs. Emits fs before before) (sym none) (adds_none before);
}
