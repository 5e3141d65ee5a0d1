-- A history, as the machines know it.
use Rattle.std.specs.Prelude.{◌≡◌, ℕ, List, [], ◌∷◌, map}
use Rattle.lat_base.specs.declared.answer.Answer.{Answer}
use Rattle.lat_base.specs.declared.event.Event as base
use Rattle.lat_past.specs.declared.past.Past.{Past}
use Rattle.lat_machines.specs.cores.Lines.{used}
use Rattle.lat_machines.specs.values.Events.{Event}
use Rattle.lat_machines.specs.node.Node.{NodeConfig, Node, node_step}
use Rattle.lat_machines.specs.world.Histories.{RatedEvent}
use Rattle.lat_lines.specs.Events.{event_shown}
use Rattle.lat_node.specs.Places.{asked_places, AreRates}
use Rattle.lat_tariff.specs.declared.tariff.Rule.{Rule}
use Rattle.lat_tariff.specs.Own.{asked_rules}
use Rattle.lat_tariff.specs.Tariffs.{AreOwn}

-- its events, as they were told
abbrev pub events_told : List Past → List base.Event
events_told history = map (λ (p : Past). p.event) history

-- its events
abbrev pub events_of : List Past → List Event
events_of history = map (λ (p : Past). event_shown p.event) history

-- the answers that it keeps
abbrev pub answers_of : List Past → List Answer
answers_of history = map (λ (p : Past). p.answer) history

-- its events, with some ratings
abbrev pub IsRated : List RatedEvent → List Past → Type 0
IsRated rated history = map (λ (r : RatedEvent). r.event) rated ≡ events_of history

-- the ratings of each event may be given of the services at their places, at the lines then held
abbrev pub AreAllowed : (ℕ → ℕ → ℕ → ℕ → Type 0) → NodeConfig → List RatedEvent → Node → Type 0
AreAllowed may config [] state = Unit {0}
AreAllowed may config (r ∷ rated) state =
    AreRates may (used state.core) config.lines (asked_places config state r.event) r.rates
    × AreAllowed may config rated (node_step config r.rates state r.event).state

-- the ratings of each event are answers of the services' own rules, at the lines then held
abbrev pub AreOwnEach : {R : Type 0} → (R → ℕ → ℕ → ℕ → Type 0) → List (Rule R) → NodeConfig → List RatedEvent → Node
    → Type 0
AreOwnEach may rules config [] state = Unit {0}
AreOwnEach may rules config (r ∷ rated) state =
    AreOwn may (used state.core) config.lines (asked_rules rules state r.event) r.rates
    × AreOwnEach may rules config rated (node_step config r.rates state r.event).state
