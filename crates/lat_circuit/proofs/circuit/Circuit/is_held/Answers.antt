use Rattle.std.proofs.Common.{sym, subst}
use Rattle.lat_circuit.specs.Stands.{Stands}
use Rattle.lat_circuit.proofs.circuit.Circuit.is_held.Goals as goal

pub returns : goal.returns
returns c = λ e st. c.is_any_held.ensures e.half.sessions (subst (λ k. Stands k e) (sym c.self.view_is) st).sessions
