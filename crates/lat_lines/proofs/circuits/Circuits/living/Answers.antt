use Rattle.std.proofs.Common.{◌∙◌, ap, subst, is_none, count_by}
use Rattle.lat_circuit.specs.Kept as circuit
use Rattle.lat_lines.specs.circuits.Kept.{Kept, Holds}
use Rattle.lat_lines.proofs.circuits.Called.{living_counted, all_counted}
use Rattle.lat_lines.proofs.circuits.Circuits.living.Goals as goal

pub returns-clause-model : goal.returns-clause-model
returns-clause-model c = λ d st.
    c.count_living.ensures
    ∙ ap (count_by (λ (q : circuit.Kept). is_none q.ended)) (c.deref.ensures.value ∙ ap (λ (z : Kept). z.held) c.self.view_is)
    ∙ living_counted c.args.self.now d (subst Holds c.self.view_is c.self.invariant.0) st

pub returns-clause-value : goal.returns-clause-value
returns-clause-value c = λ clear.
    c.count_living.ensures
    ∙ ap (count_by (λ (q : circuit.Kept). is_none q.ended)) (c.deref.ensures.value ∙ ap (λ (z : Kept). z.held) c.self.view_is)
    ∙ all_counted c.args.self.now.held clear
