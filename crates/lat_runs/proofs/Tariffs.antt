-- A node with a tariff behind a history.
use Rattle.std.proofs.Common.{◌≡◌, ℕ, List, [], ◌∷◌}
use Rattle.lat_past.specs.declared.past.Past.{Past}
use Rattle.lat_machines.specs.node.Node.{Node, NodeConfig, node_step}
use Rattle.lat_machines.specs.cores.Lines.{used}
use Rattle.lat_machines.specs.world.Histories.{RatedEvent}
use Rattle.lat_node.specs.Places.{asked_places}
use Rattle.lat_node.specs.Stands.{Machine}
use Rattle.lat_tariff.specs.declared.tariff.Rule.{Rule}
use Rattle.lat_tariff.specs.Own.{asked_rules}
use Rattle.lat_tariff.specs.Tariffs.{names, MayAt}
use Rattle.lat_tariff.proofs.Asked.{own_at, asked_at}
use Rattle.lat_runs.specs.Runs.{AreAllowed, AreOwnEach}
use Rattle.lat_runs.specs.Laws.{IsTariffRun}
use Rattle.lat_runs.proofs.Nodes.{node_run_of}

-- what a tariff may give of the services at their places is given by their own rules
own_each : {R : Type 0} (may : R → ℕ → ℕ → ℕ → Type 0) (rules : List (Rule R)) (config : NodeConfig) (rated : List RatedEvent) (s : Node) → names rules ≡ config.services →
    AreAllowed (MayAt may rules) config rated s → AreOwnEach may rules config rated s
own_each may rules config [] s offers allowed = tt
own_each may rules config (r ∷ rated) s offers allowed = (
  own_at may (used s.core) config.lines rules (asked_places config s r.event) (asked_rules rules s r.event) r.rates (asked_at rules config s r.event offers) allowed.0,
  own_each may rules config rated (node_step config r.rates s r.event).state offers allowed.1,
)

pub tariff_run_of : {R : Type 0} (may : R → ℕ → ℕ → ℕ → Type 0) (m : Machine (List (Rule R))) (h : List Past) → IsTariffRun may (MayAt may) m h
tariff_run_of may m h = record {
  run = node_run_of (MayAt may) m h;
  frames = λ sent offers went.
      let all = (node_run_of (MayAt may) m h).frames sent went in
      record { rated = all.rated; events = all.events; own = own_each may m.rule m.config all.rated m.state offers all.allowed; same = all.same };
}
