use Rattle.std.proofs.Common.{nat_eq, ap, ◌∙◌, rules}
use Rattle.lat_machines.specs.values.Addresses.{address}
use Rattle.lat_circuit.specs.declared.config.CircuitConfig.{CircuitConfig}
use Rattle.lat_payload.proofs.Addresses.{address_same}
use Rattle.lat_lines.proofs.circuits.hearing.is_to.Goals as goal

pub returns : goal.returns
returns c =
    c.eq.ensures
    ∙ address_same c.config.result.peer.0 c.args.station.0 (search rules) (search rules)
    ∙ ap (λ (config : CircuitConfig). nat_eq (address config.peer.0) (address c.args.station.0)) c.config.ensures
