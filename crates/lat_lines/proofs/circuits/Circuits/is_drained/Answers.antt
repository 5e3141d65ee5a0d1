use Rattle.std.proofs.Common.{sym, ap, subst, ◌∙◌}
use Rattle.lat_model.specs.Lists.{Each}
use Rattle.lat_lines.specs.circuits.Kept.{Kept, Holds}
use Rattle.lat_lines.specs.circuits.Living.{are_still}
use Rattle.lat_lines.specs.circuits.Stands.{IsCircuit}
use Rattle.lat_lines.proofs.circuits.Living.{drained_told}
use Rattle.lat_lines.proofs.circuits.Circuits.is_drained.Goals as goal

pub returns : goal.returns
returns c = λ d st.
    let held = c.deref.ensures.value ∙ ap (λ (z : Kept). z.held) c.self.view_is in
    let k = c.args.self.now in
    c.are_still.ensures d (subst (Each (IsCircuit d)) (sym held) st.each) ∙ ap (are_still d) held ∙ drained_told k d (subst Holds c.self.view_is c.self.invariant.0) st
