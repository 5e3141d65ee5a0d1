use Rattle.std.proofs.Common.{◌∙◌, false, rules}
use Rattle.lat_machines.specs.values.Addresses.{address}
use Rattle.lat_machines.specs.cores.Hearing.{names}
use Rattle.lat_lines.proofs.CircuitFound.{told, found_is, none_lives, names_found, names_none}
use Rattle.lat_lines.proofs.circuits.Circuits.names.Goals as goal

pub returns : goal.returns
returns c = λ d st.
    told c.is_some_and.result (names d.circuits (address c.args.from.0) c.args.to c.args.source) false c.args.self.now c.args.to c.circuit.result c.circuit.ensures.value c.is_some_and.ensures
    (λ none. names_none d c.args.to (address c.args.from.0) c.args.source (none_lives c.args.self.now d c.args.to none st))
    (λ q is h. search rules ∙ names_found d c.args.to (address c.args.from.0) c.args.source q.now (found_is c.args.self.now d c.args.to q.now is st))
