use Rattle.std.proofs.Common.{◌∙◌, sym, ap, subst, true, ◌&&◌, is_none, nat_eq, ◌≡◌}
use Rattle.std.specs.List.{find}
use Rattle.std.specs.Option.{option_map, IfSome}
use Rattle.lat_model.specs.ends.End.{lives}
use Rattle.lat_machines.specs.values.Addresses.{address}
use Rattle.lat_circuit.specs.Kept as circuit
use Rattle.lat_lines.specs.circuits.Kept.{Kept, Holds}
use Rattle.lat_lines.specs.circuits.Opens.{id_or_zero}
use Rattle.lat_lines.proofs.circuits.Called.{one_to}
use Rattle.lat_lines.proofs.CircuitFound.{alive_found}
use Rattle.lat_lines.proofs.circuits.Circuits.to.Goals as goal

pub returns-clause-model : goal.returns-clause-model
returns-clause-model c = λ d st.
    ap id_or_zero
    (c.id_to.ensures
    ∙ ap (λ qs. option_map (λ (q : circuit.Kept). q.facts.id) (find (λ (q : circuit.Kept). is_none q.ended && nat_eq (address q.facts.config.peer.0) (address c.args.peer.0)) qs))
    (c.deref.ensures.value ∙ ap (λ (z : Kept). z.held) c.self.view_is))
    ∙ one_to c.args.self.now d (address c.args.peer.0) (subst Holds c.self.view_is c.self.invariant.0) st

pub returns-clause-lives : goal.returns-clause-lives
returns-clause-lives c = λ d st.
    let is =
    c.id_to.ensures
    ∙ ap (λ qs. option_map (λ (q : circuit.Kept). q.facts.id) (find (λ (q : circuit.Kept). is_none q.ended && nat_eq (address q.facts.config.peer.0) (address c.args.peer.0)) qs))
    (c.deref.ensures.value ∙ ap (λ (z : Kept). z.held) c.self.view_is) in
    subst (λ o. IfSome o (λ x. lives (d.circuits.circuit_at x).end ≡ true)) (sym is) (alive_found c.args.self.now d (λ (q : circuit.Kept). nat_eq (address q.facts.config.peer.0) (address c.args.peer.0)) st)
