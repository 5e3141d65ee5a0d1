use Rattle.std.proofs.Common.{false, sym}
use Rattle.lat_model.specs.ends.End.{lives}
use Rattle.lat_lines.proofs.CircuitFound.{told, found_is, none_lives}
use Rattle.lat_lines.proofs.circuits.Circuits.lives.Goals as goal

pub returns : goal.returns
returns c = λ d st.
    told c.is_some_and.result (lives (d.circuits.circuit_at c.args.circuit).end) false c.args.self.now c.args.circuit c.circuit.result c.circuit.ensures.value c.is_some_and.ensures
    (λ none. sym (none_lives c.args.self.now d c.args.circuit none st))
    (λ q is h. h.1 (d.circuits.circuit_at c.args.circuit).end (found_is c.args.self.now d c.args.circuit q.now is st).end)
