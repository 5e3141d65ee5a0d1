use Rattle.std.proofs.Common.{[], ◌∷◌, length, length-append, ◌∙◌, ◌++◌, ◌+◌, sym, ap, subst, arith}
use Rattle.std.specs.Option.{option_to_list}
use Rattle.std.proofs.lemmas.Grind.{common_steps, elements}
use Rattle.lat_model.specs.circuits.Ids as tables
use Rattle.lat_machines.specs.values.Addresses.{address}
use Rattle.lat_machines.specs.cores.Hearing.{Makes}
use Rattle.lat_circuit.specs.Messages.{info_shown}
use Rattle.lat_lines.specs.circuits.Hears.{start_core}
use Rattle.lat_lines.specs.circuits.Kept.{Kept, Holds, next_id, side_of}
use Rattle.lat_lines.specs.circuits.Shown.{shown}
use Rattle.lat_lines.specs.circuits.Stands.{Simulates}
use Rattle.lat_lines.proofs.circuits.Called.{config_of}
use Rattle.lat_lines.proofs.circuits.Answered.{Begun, begun, too_is, answered_holds, answered_did}
use Rattle.lat_lines.proofs.circuits.Added.{ids_added, length_added}
use Rattle.lat_lines.proofs.circuits.Circuits.answer_start.Goals as goal

pub invariant_of-self : goal.invariant_of-self
invariant_of-self c =
    let k = shown c.self.inside in
    let from = c.args.from in
    let info = info_shown c.args.info.now in
    let rooms = c.pop.new.self.items in
    let q = c.answer_in-circuit.result in
    let out = c.args.out.now in
    let after = c.answer_in-circuit.new.out in
    let b : Begun k from c.args.source info rooms c.in-Some.room q out after =
    begun k from c.args.source info c.config_to-config.result c.next_id-id.result rooms c.in-Some.room q out after c.self.invariant.0
    (ap (λ (z : Kept). z.server) c.self.view_is ∙ c.requires.node)
    (c.config_to-config.ensures ∙ ap (λ z. config_of z from info.name) (sym c.self.view_is))
    (c.next_id-id.ensures ∙ ap next_id (sym c.self.view_is))
    (c.pop.ensures.items ∙ ap (λ r. rooms ++ option_to_list r) c.in-Some.is)
    c.answer_in-circuit.ensures.begins in (
      subst Holds (sym (too_is k q rooms c.hold.new.held.items c.hold.ensures.items))
          (answered_holds k from c.args.source info (next_id k) c.in-Some.room rooms q out after b.answered b.fewer b.each),
      omega (arith, c.self.invariant.1, c.hold.ensures.capacity),
      omega (arith, c.self.invariant.2, c.pop.ensures.capacity),
    )

pub returns-clause-did : goal.returns-clause-did
returns-clause-did c =
    let k = shown c.self.inside in
    let from = c.args.from in
    let info = info_shown c.args.info.now in
    let rooms = c.pop.new.self.items in
    let q = c.answer_in-circuit.result in
    let out = c.args.out.now in
    let after = c.answer_in-circuit.new.out in
    let b : Begun k from c.args.source info rooms c.in-Some.room q out after =
    begun k from c.args.source info c.config_to-config.result c.next_id-id.result rooms c.in-Some.room q out after c.self.invariant.0
    (ap (λ (z : Kept). z.server) c.self.view_is ∙ c.requires.node)
    (c.config_to-config.ensures ∙ ap (λ z. config_of z from info.name) (sym c.self.view_is))
    (c.next_id-id.ensures ∙ ap next_id (sym c.self.view_is))
    (c.pop.ensures.items ∙ ap (λ r. rooms ++ option_to_list r) c.in-Some.is)
    c.answer_in-circuit.ensures.begins in
    let new : Kept = record k { drawn = k.drawn + 1; held = c.hold.new.held.items; rooms = rooms } in
    let P : Kept → Type 0 = λ z. Simulates (λ d. (start_core (side_of z) d (address from.0) c.args.source info (Makes (tables.next_id d.circuits))).doing) z new out after in
    let Q : Kept → Type 0 = λ z. Simulates (λ d. (start_core (side_of k) d (address from.0) c.args.source info (Makes (tables.next_id d.circuits))).doing) k z out after in
    subst P c.self.view_is (
    subst Q (sym (too_is k q rooms c.hold.new.held.items c.hold.ensures.items))
    (answered_did k from c.args.source info (next_id k) c.in-Some.room rooms q out after b.answered)
    )

pub returns-clause-core : goal.returns-clause-core
returns-clause-core c = record {
  own = ap (λ (z : Kept). z.own) c.self.view_is;
  name = ap (λ (z : Kept). z.name) c.self.view_is;
  timing = ap (λ (z : Kept). z.timing) c.self.view_is;
  server = ap (λ (z : Kept). z.server) c.self.view_is;
  first = ap (λ (z : Kept). z.first) c.self.view_is;
  memory = omega (arith, length_added c.args.self.now c.self.inside.held.items c.hold.new.held.items c.answer_in-circuit.result (record { are = ap (λ (z : Kept). z.held) c.self.view_is; more = c.hold.ensures.items }), length-append c.pop.new.self.items (c.in-Some.room ∷ []), ap length (c.pop.ensures.items ∙ ap (λ r. c.pop.new.self.items ++ option_to_list r) c.in-Some.is), ap (λ (z : Kept). length z.rooms) c.self.view_is);
}

pub returns-clause-held : goal.returns-clause-held
returns-clause-held c =
    ids_added c.args.self.now c.self.inside.held.items c.hold.new.held.items c.answer_in-circuit.result (record { are = ap (λ (z : Kept). z.held) c.self.view_is; more = c.hold.ensures.items })

pub answer_in-circuit-requires-clause-sessions : goal.answer_in-circuit-requires-clause-sessions
answer_in-circuit-requires-clause-sessions c = grind (arith, elements)

pub returns-clause-most : goal.returns-clause-most
returns-clause-most c = grind (arith, common_steps)
