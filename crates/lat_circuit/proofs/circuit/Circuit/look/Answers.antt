use Rattle.std.proofs.Common.{◌≡◌, ◌∙◌, sym, subst, ap, get_or, Fits, w8, rules, arith}
use Rattle.lat_base.specs.Addresses.{addr_of}
use Rattle.lat_machines.specs.values.Addresses.{address}
use Rattle.lat_machines.proofs.Addresses.{bytes_of_address}
use Rattle.lat_circuit.specs.declared.config.CircuitConfig.{CircuitConfig}
use Rattle.lat_circuit.specs.Stands.{Stands}
use Rattle.lat_circuit.proofs.circuit.Circuit.look.Goals as goal

pub returns : goal.returns
returns c = λ e st.
    let here : Stands _ e = subst (λ k. Stands k e) (sym c.self.view_is) st in
    let config : CircuitConfig = c.config-config.result in
    let back : addr_of (address config.peer.0) ≡ config.peer =
    λ i. record { 0 = bytes_of_address config.peer.0 (omega arith) (λ n. let f : Fits w8 (get_or config.peer.0 n 0) = search rules in f.fits) i } in
    let peer : config.peer ≡ addr_of (address c.args.self.now.facts.config.peer.0) = sym back ∙ ap (λ (z : CircuitConfig). addr_of (address z.peer.0)) c.config-config.ensures in
    let name = ap (λ (z : CircuitConfig). z.peer_name) c.config-config.ensures in
    λ i. record {
      id = c.id.ensures i;
      peer_id = c.peer_id.ensures.model e st i;
      peer = peer i;
      name = name i;
      timer = here.timer i;
      keep_alive = here.keepalive i;
      held = c.held.ensures.model e st i;
      unacknowledged = c.unacknowledged.ensures.state e.half.link here.link i;
      rounds = here.rounds i;
    }
