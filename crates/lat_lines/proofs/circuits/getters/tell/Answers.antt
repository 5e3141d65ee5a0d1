use Rattle.std.proofs.Common.{◌≡◌, ◌∙◌, ap}
use Rattle.std.specs.Option.{is_some}
use Rattle.lat_model.specs.ends.End.{End}
use Rattle.lat_machines.specs.values.Addresses.{address}
use Rattle.lat_session.specs.States.{asked_at}
use Rattle.lat_lines.specs.circuits.Info.{asks}
use Rattle.lat_lines.proofs.CircuitFound.{some_if}
use Rattle.lat_lines.proofs.circuits.getters.tell.Goals as goal

pub returns : goal.returns
returns c = λ d is.
    let e : End = (d.circuits.circuit_at c.args.circuit.now.facts.id).end in
    let peer = ap (λ z. address z.peer.0) c.config.ensures ∙ is.address in
    let peer_circuit = c.peer_id.ensures.model e is.end in
    let peer_session = c.peer.ensures e is.end in
    let given = ap (λ z. z.0) (c.totals-given.ensures e is.end) in
    let used = ap (λ z. z.1) (c.totals-given.ensures e is.end) in
    let end = c.ended.ensures e is.end in
    let asked : c.is_some.result ≡ asks e.half.sessions c.args.id =
    c.is_some.ensures ∙ ap is_some (c.asked_at.ensures.model e is.end) ∙ some_if (asks e.half.sessions c.args.id) (asked_at e.half.sessions c.args.id) in
    cc
