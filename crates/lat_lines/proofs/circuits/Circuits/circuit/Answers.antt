use Rattle.std.proofs.Common.{◌∙◌, ap, subst}
use Rattle.std.specs.List.{find}
use Rattle.lat_lines.specs.circuits.Kept.{Kept, Holds, IsOwn}
use Rattle.lat_lines.proofs.CircuitFound.{has_same, if_found, if_held}
use Rattle.lat_lines.proofs.circuits.Circuits.circuit.Goals as goal

pub returns-clause-own : goal.returns-clause-own
returns-clause-own c =
    let k = c.args.self.now in
    let h = subst Holds c.self.view_is c.self.invariant.0 in
    if_found (IsOwn k) (has_same c.args.id) k.held (λ b. b.now) c.circuit_of.result h.each
    (c.circuit_of.ensures ∙ ap (find (has_same c.args.id)) (c.deref.ensures.value ∙ ap (λ (z : Kept). z.held) c.self.view_is))

pub returns-clause-within : goal.returns-clause-within
returns-clause-within c =
    let h = subst Holds c.self.view_is c.self.invariant.0 in
    if_held c.args.self.now c.args.id (λ b. b.now) c.circuit_of.result h
    (c.circuit_of.ensures ∙ ap (find (has_same c.args.id)) (c.deref.ensures.value ∙ ap (λ (z : Kept). z.held) c.self.view_is))
