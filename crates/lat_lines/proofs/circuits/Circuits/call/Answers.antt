use Rattle.std.proofs.Common.{◌∙◌, sym, ap, subst, arith, ◌+◌, ◌≤◌, [], ◌∷◌, length, length-append}
use Rattle.std.proofs.lemmas.Grind.{common_steps, elements}
use Rattle.lat_model.specs.Lists.{Each}
use Rattle.lat_machines.specs.values.Addresses.{address}
use Rattle.lat_machines.specs.cores.Acts.{called}
use Rattle.lat_machines.specs.cores.Cores.{setup_of}
use Rattle.lat_circuit.specs.declared.config.CircuitConfig.{CircuitConfig}
use Rattle.lat_circuit.specs.Begins.{Begins, facts_called}
use Rattle.lat_circuit.specs.Frames.{timing_shown}
use Rattle.lat_lines.specs.circuits.Kept.{Kept, Holds, held_with, side_of}
use Rattle.lat_lines.specs.circuits.Shown.{shown}
use Rattle.lat_lines.specs.circuits.Stands.{Simulates}
use Rattle.lat_lines.specs.circuits.Opens.{called_core}
use Rattle.lat_lines.proofs.circuits.Called.{Calls, config_of, call_holds, call_did, held_now, each_last}
use Rattle.lat_lines.proofs.circuits.Added.{ids_added, length_added, clear_added, room_added}
use Rattle.lat_lines.proofs.circuits.Circuits.call.Goals as goal

pub invariant_of-self : goal.invariant_of-self
invariant_of-self c =
    let k = c.args.self.now in
    let node = c.args.node.now in
    let id = c.next_id-id.result in
    let q = c.call_in-circuit.result in
    let left = c.pop.new.self.items in
    let rooms = each_last (λ n. k.timing.sessions ≤ n) left c.in-Some.room (subst (Each (λ n. k.timing.sessions ≤ n)) (ap (λ (z : Kept). z.rooms) (sym c.self.view_is) ∙ c.in-Some.ensures.items) (subst Holds c.self.view_is c.self.invariant.0).rooms) in
    let P : Kept → CircuitConfig → Type 0 = λ z g. Begins (called (setup_of (timing_shown g.timing)) z.moment) (facts_called g id) c.in-Some.room z.moment q c.args.out.now c.call_in-circuit.new.out in
    let b : Calls k c.args.peer node id c.in-Some.room left q c.args.out.now c.call_in-circuit.new.out = record {
      holds = subst Holds c.self.view_is c.self.invariant.0;
      server = c.requires.server;
      next = c.next_id-id.ensures;
      places = rooms.1;
      begins = subst (λ z. P z (config_of k c.args.peer node)) c.self.view_is (subst (P (shown c.self.inside)) c.config_to-config.ensures c.call_in-circuit.ensures.begins);
    } in
    let is = held_now k q left (c.self.inside.drawn + 1) c.hold.new.held.items (omega (arith, ap (λ (z : Kept). z.drawn) c.self.view_is)) (c.hold.ensures.items ∙ ap (λ (z : Kept). held_with q z.held) c.self.view_is) ∙ ap (λ (z : Kept). record z { drawn = c.self.inside.drawn + 1; held = c.hold.new.held.items; rooms = left }) (sym c.self.view_is) in (
      subst Holds is (call_holds k c.args.peer node id c.in-Some.room left q c.args.out.now c.call_in-circuit.new.out b (omega (arith, length-append left (c.in-Some.room ∷ []), ap length c.in-Some.ensures.items, ap (λ (z : Kept). length z.rooms) c.self.view_is)) rooms.0),
      omega (arith, c.hold.ensures.capacity, c.self.invariant.1),
      omega (arith, c.in-Some.ensures.capacity, c.self.invariant.2),
    )

pub returns-clause-did : goal.returns-clause-did
returns-clause-did c =
    let k = c.args.self.now in
    let node = c.args.node.now in
    let id = c.next_id-id.result in
    let q = c.call_in-circuit.result in
    let left = c.pop.new.self.items in
    let rooms = each_last (λ n. k.timing.sessions ≤ n) left c.in-Some.room (subst (Each (λ n. k.timing.sessions ≤ n)) (ap (λ (z : Kept). z.rooms) (sym c.self.view_is) ∙ c.in-Some.ensures.items) (subst Holds c.self.view_is c.self.invariant.0).rooms) in
    let P : Kept → CircuitConfig → Type 0 = λ z g. Begins (called (setup_of (timing_shown g.timing)) z.moment) (facts_called g id) c.in-Some.room z.moment q c.args.out.now c.call_in-circuit.new.out in
    let b : Calls k c.args.peer node id c.in-Some.room left q c.args.out.now c.call_in-circuit.new.out = record {
      holds = subst Holds c.self.view_is c.self.invariant.0;
      server = c.requires.server;
      next = c.next_id-id.ensures;
      places = rooms.1;
      begins = subst (λ z. P z (config_of k c.args.peer node)) c.self.view_is (subst (P (shown c.self.inside)) c.config_to-config.ensures c.call_in-circuit.ensures.begins);
    } in
    let is = held_now k q left (c.self.inside.drawn + 1) c.hold.new.held.items (omega (arith, ap (λ (z : Kept). z.drawn) c.self.view_is)) (c.hold.ensures.items ∙ ap (λ (z : Kept). held_with q z.held) c.self.view_is) ∙ ap (λ (z : Kept). record z { drawn = c.self.inside.drawn + 1; held = c.hold.new.held.items; rooms = left }) (sym c.self.view_is) in
    subst (λ l. Simulates (called_core (side_of k) (address c.args.peer.0) node) k l c.args.out.now c.call_in-circuit.new.out) is
    (call_did k c.args.peer node id c.in-Some.room left q c.args.out.now c.call_in-circuit.new.out b)

pub returns-clause-core : goal.returns-clause-core
returns-clause-core c = record {
  own = ap (λ (z : Kept). z.own) c.self.view_is;
  name = ap (λ (z : Kept). z.name) c.self.view_is;
  timing = ap (λ (z : Kept). z.timing) c.self.view_is;
  server = ap (λ (z : Kept). z.server) c.self.view_is;
  first = ap (λ (z : Kept). z.first) c.self.view_is;
  memory = omega (arith, length_added c.args.self.now c.self.inside.held.items c.hold.new.held.items c.call_in-circuit.result (record { are = ap (λ (z : Kept). z.held) c.self.view_is; more = c.hold.ensures.items }), length-append c.pop.new.self.items (c.in-Some.room ∷ []), ap length c.in-Some.ensures.items, ap (λ (z : Kept). length z.rooms) c.self.view_is);
}

pub returns-clause-timing : goal.returns-clause-timing
returns-clause-timing c = (subst Holds c.self.view_is c.self.invariant.0).timing

pub returns-clause-clear : goal.returns-clause-clear
returns-clause-clear c =
    clear_added c.args.self.now c.self.inside.held.items c.hold.new.held.items c.call_in-circuit.result (record { are = ap (λ (z : Kept). z.held) c.self.view_is; more = c.hold.ensures.items }) c.call_in-circuit.ensures.begins.state.ended

pub returns-clause-free : goal.returns-clause-free
returns-clause-free c =
    let k = c.args.self.now in
    let h = subst Holds c.self.view_is c.self.invariant.0 in
    let some : 1 ≤ c.config_to-config.result.timing.sessions = omega (arith, h.timing.sessions.0, ap (λ (z : CircuitConfig). z.timing.sessions) c.config_to-config.ensures) in
    room_added k c.self.inside.held.items c.hold.new.held.items _ c.next_id-id.result c.in-Some.room _ c.call_in-circuit.result _ _ (record { are = ap (λ (z : Kept). z.held) c.self.view_is; more = c.hold.ensures.items }) c.call_in-circuit.ensures.begins h c.next_id-id.ensures some

pub returns-clause-held : goal.returns-clause-held
returns-clause-held c =
    length_added c.args.self.now c.self.inside.held.items c.hold.new.held.items c.call_in-circuit.result (record { are = ap (λ (z : Kept). z.held) c.self.view_is; more = c.hold.ensures.items })

pub returns-clause-ids : goal.returns-clause-ids
returns-clause-ids c =
    ids_added c.args.self.now c.self.inside.held.items c.hold.new.held.items c.call_in-circuit.result (record { are = ap (λ (z : Kept). z.held) c.self.view_is; more = c.hold.ensures.items })

pub call_in-circuit-requires-clause-sessions : goal.call_in-circuit-requires-clause-sessions
call_in-circuit-requires-clause-sessions c = grind (arith, elements)

pub returns-clause-most : goal.returns-clause-most
returns-clause-most c = grind (arith, common_steps)

pub returns-clause-rooms : goal.returns-clause-rooms
returns-clause-rooms c =
    omega (arith, length-append c.pop.new.self.items (c.in-Some.room ∷ []), ap length c.in-Some.ensures.items, ap (λ (z : Kept). length z.rooms) c.self.view_is)
