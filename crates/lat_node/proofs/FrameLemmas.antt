-- The frames of an event, with its ratings.
use Rattle.std.proofs.Common.{◌≡◌, ℕ, refl, sym, subst, Bool, true, false, cond, List, []}
use Rattle.lat_base.specs.declared.answer.Answer as base_answer
use Rattle.lat_base.specs.declared.answer.Answer.TheVariants as answers
use Rattle.lat_base.specs.declared.event.Event as base
use Rattle.lat_base.specs.declared.event.Event.TheVariants as events
use Rattle.lat_base.specs.declared.outbox.OutFrame.{OutFrame}
use Rattle.lat_machines.specs.values.Events.{Event, Hears, Time, Connects, Puts, Sets, Takes, Attends, Closes, Requests, Withdraws, Announces, Avoids, Readies, Halts}
use Rattle.lat_machines.specs.cores.Lines.{used}
use Rattle.lat_machines.specs.node.Node.{NodeConfig, Node, node_step}
use Rattle.lat_payload.specs.Frames.{Emits}
use Rattle.lat_lines.specs.Events.{event_shown}
use Rattle.lat_node.specs.Kept.{Kept, config_of}
use Rattle.lat_node.specs.Places.{places, event_places, asked_places, AreRates}
use Rattle.lat_node.specs.Stands.{Stands, Machine, IsMachine, Frames}
use Rattle.lat_node.specs.Events.{Simulates, SimulatesRated, Rated, TakesNoMemory}

-- the ratings that are asked for give the frames of an event
pub frames_rated : {H : Type 0} (may : H → ℕ → ℕ → ℕ → ℕ → Type 0) (k : Kept H) (m : Machine H) (e : base.Event) (after : List OutFrame) → IsMachine k m →
    Rated may k m.state (λ rates. node_step (config_of k) rates m.state (event_shown e)) (asked_places (config_of k) m.state (event_shown e)) [] after →
    Frames may m e after
frames_rated {H = H} may k m e after is r =
    subst (λ (c : NodeConfig). Frames may (record { config = c; rule = m.rule; state = m.state }) e after) (sym is.config)
    (subst (λ (f : H). Frames may (record { config = config_of k; rule = f; state = m.state }) e after) (sym is.rule)
    (record { rates = r.rates; each = r.each; adds = r.frames }))

-- where there are none to be asked for, a halted node asks for as many as another one
pub none_for : (halted : Bool) (ps : List ℕ) → ps ≡ [] → cond halted [] ps ≡ []
none_for true ps none = refl
none_for false ps none = none

-- no ratings, where none are asked for
pub no_rates : (may : ℕ → ℕ → ℕ → ℕ → Type 0) (held lines : ℕ) (ps : List ℕ) → ps ≡ [] → AreRates may held lines ps []
no_rates may held lines ps none = subst (λ qs. AreRates may held lines qs []) (sym none) tt

-- an event without ratings
pub unrated : {H : Type 0} (may : H → ℕ → ℕ → ℕ → ℕ → Type 0) (k : Kept H) (s : Node) (e : Event) (before after : List OutFrame) →
    event_places (config_of k) e ≡ [] →
    Emits (node_step (config_of k) [] s e).frames before after →
    Rated may k s (λ rates. node_step (config_of k) rates s e) (asked_places (config_of k) s e) before after
unrated may k s e before after none adds = record {
  rates = [];
  each = no_rates (may k.rule) (used s.core) k.lines.lines (asked_places (config_of k) s e) (none_for s.halted (event_places (config_of k) e) none);
  frames = adds;
}

-- the events that ask for none
abbrev pub IsQuiet : Event → Type 0
IsQuiet (Hears from payload k now) = ⊥
IsQuiet Announces = ⊥
IsQuiet e = Unit {0}

pub quiet : (config : NodeConfig) (e : Event) → IsQuiet e → event_places config e ≡ []
quiet config (Hears from payload k now) q = absurd q
quiet config Announces q = absurd q
quiet config (Time now) q = refl
quiet config (Connects line service) q = refl
quiet config (Puts line bytes) q = refl
quiet config (Sets line setting) q = refl
quiet config (Takes line n) q = refl
quiet config (Attends line flag) q = refl
quiet config (Closes line) q = refl
quiet config (Requests to id service) q = refl
quiet config (Withdraws id) q = refl
quiet config (Avoids line) q = refl
quiet config (Readies line ready) q = refl
quiet config Halts q = refl

-- an event without ratings, whole

pub steps_quiet : {H : Type 0} (may : H → ℕ → ℕ → ℕ → ℕ → Type 0) (k l : Kept H) (e : Event) (answer : base_answer.Answer) (before after : List OutFrame) →
    IsQuiet e → Simulates (λ config s. node_step config [] s e) k l answer before after → SimulatesRated may e k l answer before after
steps_quiet may k l e answer before after q does = λ s st.
    let d = does s st in
    (d.0, d.1, unrated may k s e before after (quiet (config_of k) e q) d.2)

pub steps_announce : {H : Type 0} (may : H → ℕ → ℕ → ℕ → ℕ → Type 0) (k : Kept H) (before after : List OutFrame) →
    ((s : Node) → Stands k s → Rated may k s (λ rates. node_step (config_of k) rates s Announces) (cond s.halted [] (places (config_of k))) before after) → SimulatesRated may Announces k k answers.Done before after
steps_announce may k before after rated = λ s st. (st, refl, rated s st)

pub act_quiet : (e : base.Event) → TakesNoMemory e → IsQuiet (event_shown e)
act_quiet (events.Heard from payload now) a = absurd a
act_quiet (events.Time now) a = tt
act_quiet (events.Connect line service) a = tt
act_quiet (events.Put line bytes) a = tt
act_quiet (events.Set line setting) a = tt
act_quiet (events.Take line n) a = absurd a
act_quiet (events.Attend line flag) a = tt
act_quiet (events.Close line) a = tt
act_quiet (events.Request to id service) a = absurd a
act_quiet (events.Cancel id) a = tt
act_quiet events.Announce a = absurd a
act_quiet (events.Avoid line) a = tt
act_quiet (events.Ready line ready) a = tt
act_quiet events.Halt a = absurd a
