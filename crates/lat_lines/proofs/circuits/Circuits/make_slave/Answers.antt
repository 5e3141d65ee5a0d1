use Rattle.std.proofs.Common.{◌<◌, ◌∙◌, length, nat_lt, sym, ap, cond}
use Rattle.std.proofs.lemmas.Bool.{and_parts, ltb-true}
use Rattle.lat_model.specs.circuits.Ids as tables
use Rattle.lat_machines.specs.values.Addresses.{address}
use Rattle.lat_machines.specs.values.Answers.{Started}
use Rattle.lat_machines.specs.cores.Hearing.{StartFact, Makes, Refuses}
use Rattle.lat_machines.specs.node.Node.{start_answer}
use Rattle.lat_circuit.specs.Messages.{info_shown}
use Rattle.lat_lines.specs.circuits.Hears.{start_core, new_fact}
use Rattle.lat_lines.specs.circuits.Kept.{side_of}
use Rattle.lat_lines.proofs.circuits.Answered.{refused_did}
use Rattle.lat_lines.proofs.circuits.Each.{did_as}
use Rattle.lat_lines.proofs.circuits.Ids.{next_core}
use Rattle.lat_lines.proofs.circuits.Reserving.{one_ready}
use Rattle.lat_lines.proofs.circuits.Circuits.make_slave.Goals as goal

pub returns-then-has_place-clause-did : goal.returns-then-has_place-clause-did
returns-then-has_place-clause-did c =
    let k = c.args.self.now in
    let from = address c.args.from.0 in
    let info = info_shown c.args.info.now in
    did_as (λ d. (start_core (side_of k) d from c.args.source info (Makes (tables.next_id d.circuits))).doing) (λ d. (start_core (side_of k) d from c.args.source info (new_fact d.circuits)).doing) k c.answer_start.new.self c.args.out.now c.answer_start.new.out
    (λ d st. ap (λ (f : StartFact). (start_core (side_of k) d from c.args.source info f).doing) (c.has_place.ensures.model d st c.requires.clear ∙ ap (λ b. cond b (Makes (tables.next_id d.circuits)) Refuses) c.if-has_place.true))
    c.answer_start.ensures.did

pub returns-then-has_place-clause-answer : goal.returns-then-has_place-clause-answer
returns-then-has_place-clause-answer c = λ d st.
    let k = c.args.self.now in
    ap Started (c.answer_start.ensures.id ∙ next_core k d st)
    ∙ ap start_answer (sym (c.has_place.ensures.model d st c.requires.clear ∙ ap (λ b. cond b (Makes (tables.next_id d.circuits)) Refuses) c.if-has_place.true))

pub returns-else-has_place-clause-did : goal.returns-else-has_place-clause-did
returns-else-has_place-clause-did c =
    let k = c.args.self.now in
    let from = address c.args.from.0 in
    let info = info_shown c.args.info.now in
    did_as (λ d. (start_core (side_of k) d from c.args.source info Refuses).doing) (λ d. (start_core (side_of k) d from c.args.source info (new_fact d.circuits)).doing) k k c.args.out.now c.push.new.self
    (λ d st. ap (λ (f : StartFact). (start_core (side_of k) d from c.args.source info f).doing) (c.has_place.ensures.model d st c.requires.clear ∙ ap (λ b. cond b (Makes (tables.next_id d.circuits)) Refuses) c.if-has_place.false))
    (refused_did k c.args.from c.args.source info c.stray_stop.result c.args.out.now c.push.new.self (record { is = c.stray_stop.ensures.value; formed = c.stray_stop.ensures.formed c.requires.source }) c.push.ensures)

pub returns-else-has_place-clause-answer : goal.returns-else-has_place-clause-answer
returns-else-has_place-clause-answer c = λ d st.
    ap start_answer (sym (c.has_place.ensures.model d st c.requires.clear ∙ ap (λ b. cond b (Makes (tables.next_id d.circuits)) Refuses) c.if-has_place.false))

pub answer_start-requires-clause-memory : goal.answer_start-requires-clause-memory
answer_start-requires-clause-memory c =
    let k = c.args.self.now in
    let both = and_parts (nat_lt (length k.held) 8) (nat_lt k.drawn 65535) (sym c.has_place.ensures.value ∙ c.if-has_place.true) in
    one_ready k c.requires.memory (ltb-true (length k.held) 8 both.0)
