use Rattle.std.proofs.Common.{sym, subst}
use Rattle.lat_circuit.specs.Stands.{Stands}
use Rattle.lat_circuit.proofs.circuit.Circuit.held.Goals as goal

pub returns-clause-model : goal.returns-clause-model
returns-clause-model c = λ e st.
    let here = subst (λ k. Stands k e) (sym c.self.view_is) st in
    c.held.ensures.model e.half.sessions here.sessions
