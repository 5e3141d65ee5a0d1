use Rattle.std.proofs.Common.{◌∙◌, ap, ap₂, sym, subst, ◌&&◌, nat_eq}
use Rattle.lat_machines.specs.cores.Looks.{unacknowledged}
use Rattle.lat_circuit.specs.Stands.{Stands}
use Rattle.lat_circuit.proofs.circuit.Circuit.is_drained.Goals as goal

pub returns-then-are_gone : goal.returns-then-are_gone
returns-then-are_gone c = λ e st.
    let here = subst (λ k. Stands k e) (sym c.self.view_is) st in
    ap₂ (λ b n. b && nat_eq n 0) (sym c.if-are_gone.true ∙ c.are_gone.ensures e.half.sessions here.sessions) (c.unacknowledged.ensures.state e.half.link here.link)

pub returns-else-are_gone : goal.returns-else-are_gone
returns-else-are_gone c = λ e st.
    let here = subst (λ k. Stands k e) (sym c.self.view_is) st in
    c.if-are_gone.false ∙ ap (λ b. b && nat_eq (unacknowledged e) 0) (sym c.if-are_gone.false ∙ c.are_gone.ensures e.half.sessions here.sessions)
