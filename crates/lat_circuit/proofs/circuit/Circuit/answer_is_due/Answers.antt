use Rattle.std.proofs.Common.{◌∙◌, ◌*◌, ◌&&◌, sym, ap, subst}
use Rattle.lat_model.specs.ends.Timers.{passed}
use Rattle.lat_circuit.specs.Stands.{Stands}
use Rattle.lat_circuit.proofs.circuit.Circuit.answer_is_due.Goals as goal

pub returns-clause-model : goal.returns-clause-model
returns-clause-model c = λ e st.
    let here = subst (λ k. Stands k e) (sym c.self.view_is) st in
    c.keepalive_is_over.ensures.model e st ∙ ap (λ n. e.master && e.running && passed n (1000 * e.keepalive) e) here.moments.sent_at
