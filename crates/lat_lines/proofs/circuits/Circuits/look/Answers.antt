use Rattle.std.proofs.Common.{filter, slice_get, sym, ap, subst, ◌∙◌}
use Rattle.lat_lines.specs.circuits.Kept.{Kept, Holds}
use Rattle.lat_lines.proofs.circuits.Living.{is_alive, look_told, none_told}
use Rattle.lat_lines.proofs.circuits.Circuits.look.Goals as goal

pub returns-in_err-circuit : goal.returns-in_err-circuit
returns-in_err-circuit c = λ d st.
    let held = c.deref.ensures.value ∙ ap (λ (z : Kept). z.held) c.self.view_is in
    c.from_residual.ensures
    ∙ none_told c.args.self.now d c.args.at (subst Holds c.self.view_is c.self.invariant.0) st
    (ap (λ qs. slice_get (filter is_alive qs) c.args.at) (sym held) ∙ sym c.in_err-circuit.ensures)

pub returns : goal.returns
returns c = λ d st.
    let held = c.deref.ensures.value ∙ ap (λ (z : Kept). z.held) c.self.view_is in
    look_told c.args.self.now d c.args.at c.in_ok-circuit.circuit.now c.look.result (subst Holds c.self.view_is c.self.invariant.0) st
    (ap (λ qs. slice_get (filter is_alive qs) c.args.at) (sym held) ∙ sym c.in_ok-circuit.ensures)
    c.look.ensures
