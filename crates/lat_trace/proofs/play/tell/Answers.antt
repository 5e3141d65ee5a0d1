use Rattle.std.proofs.Common.{◌≡◌, ◌∙◌, ap, sym, None}
use Rattle.lat_base.specs.declared.answer.Answer.{Answer}
use Rattle.lat_lines.specs.Events.{event_shown}
use Rattle.lat_machines.specs.values.Addresses.{address}
use Rattle.lat_machines.specs.values.Events.{Hears}
use Rattle.lat_machines.specs.world.Machines.{Machines}
use Rattle.lat_payload.specs.Reads.{reading_of}
use Rattle.std.specs.Prelude.{Option, slice_get}
use Rattle.lat_schedule.specs.declared.event.WorldEvent.TheVariants.{Local, Deliver, Inject}
use Rattle.lat_wire.specs.Kept.{setups_of}
use Rattle.lat_wire.specs.Stands.{Stands}
use Rattle.lat_wire.specs.Told.{IsAnswered, answered_to}
use Rattle.lat_replay.specs.Played.{State, refusal}
use Rattle.lat_trace.specs.Entries.{answer_at}
use Rattle.lat_trace.specs.Shown.{IsAt}
use Rattle.lat_trace.proofs.Telling.{answers_so, both_ok, deliver_answers, deliver_goes, deliver_refused, goes_so, if_so, inject_answers, inject_goes, inject_refused, local_answers, local_goes, local_refused, refuses_so, some_if, some_ok, some_refused}
use Rattle.lat_trace.proofs.play.tell.Goals as goal

pub returns-in-Local-clause-goes : goal.returns-in-Local-clause-goes
returns-in-Local-clause-goes g c =
    let k = c.args.wire.now in
    goes_so k c.local.new.self c.some_answer.result c.args.event.now (Local c.in-Local.server c.in-Local.event) c.in-Local.is
    (some_ok _ c.local.result c.some_answer.result c.some_answer.ensures
    (both_ok c.local.result (local_goes k c.local.new.self c.in-Local.server c.in-Local.event) c.local.ensures.stands c.local.ensures.moment))

pub returns-in-Local-clause-answer : goal.returns-in-Local-clause-answer
returns-in-Local-clause-answer g c =
    let k = c.args.wire.now in
    let e = Local c.in-Local.server c.in-Local.event in
    answers_so k c.some_answer.result c.args.event.now e c.in-Local.is
    (some_if (IsAnswered k c.in-Local.server (event_shown c.in-Local.event)) (λ (a : Option Answer). (s : State) → IsAt k s → a ≡ answer_at (setups_of k) s e) c.local.result c.some_answer.result c.some_answer.ensures
    (local_answers k c.in-Local.server c.in-Local.event) c.local.ensures.answer)

pub returns-in-Local-clause-refused : goal.returns-in-Local-clause-refused
returns-in-Local-clause-refused g c =
    let k = c.args.wire.now in
    let e = Local c.in-Local.server c.in-Local.event in
    refuses_so k c.some_answer.result c.args.event.now e c.in-Local.is
    (λ s h. some_refused c.local.result c.some_answer.result (refusal (setups_of k) s e) c.some_answer.ensures
    (local_refused k c.in-Local.server c.in-Local.event c.local.result c.local.ensures.refused s h))

pub returns-in-Deliver-clause-goes : goal.returns-in-Deliver-clause-goes
returns-in-Deliver-clause-goes g c =
    let k = c.args.wire.now in
    goes_so k c.deliver.new.self c.deliver.result c.args.event.now (Deliver c.in-Deliver.index) c.in-Deliver.is
    (both_ok c.deliver.result (λ goes u. deliver_goes k c.deliver.new.self c.in-Deliver.index goes c.deliver.ensures.moment) c.deliver.ensures.stands c.deliver.ensures.stands)

pub returns-in-Deliver-clause-answer : goal.returns-in-Deliver-clause-answer
returns-in-Deliver-clause-answer g c =
    let k = c.args.wire.now in
    let e = Deliver c.in-Deliver.index in
    answers_so k c.deliver.result c.args.event.now e c.in-Deliver.is
    (if_so (λ (a : Option Answer). (w : Machines) → Stands k w → a ≡ answered_to (setups_of k) w k.moment (slice_get w.posts c.in-Deliver.index)) (λ (a : Option Answer). (s : State) → IsAt k s → a ≡ answer_at (setups_of k) s e) c.deliver.result
    (deliver_answers k c.in-Deliver.index) c.deliver.ensures.answer)

pub returns-in-Deliver-clause-refused : goal.returns-in-Deliver-clause-refused
returns-in-Deliver-clause-refused g c =
    let k = c.args.wire.now in
    refuses_so k c.deliver.result c.args.event.now (Deliver c.in-Deliver.index) c.in-Deliver.is
    (deliver_refused k c.in-Deliver.index c.deliver.result c.deliver.ensures.refused)

pub returns-in-Inject-clause-goes : goal.returns-in-Inject-clause-goes
returns-in-Inject-clause-goes g c =
    let k = c.args.wire.now in
    goes_so k c.inject.new.self c.some_answer-in-Inject.result c.args.event.now (Inject c.in-Inject.server c.in-Inject.from c.as_slice.result.now)
    (c.in-Inject.is ∙ ap (λ z. Inject c.in-Inject.server c.in-Inject.from z) (sym c.as_slice.ensures))
    (some_ok _ c.inject.result c.some_answer-in-Inject.result c.some_answer-in-Inject.ensures
    (both_ok c.inject.result (λ goes u. inject_goes k c.inject.new.self c.in-Inject.server c.in-Inject.from c.as_slice.result.now goes c.inject.ensures.moment) c.inject.ensures.stands c.inject.ensures.stands))

pub returns-in-Inject-clause-answer : goal.returns-in-Inject-clause-answer
returns-in-Inject-clause-answer g c =
    let k = c.args.wire.now in
    let e = Inject c.in-Inject.server c.in-Inject.from c.as_slice.result.now in
    answers_so k c.some_answer-in-Inject.result c.args.event.now e (c.in-Inject.is ∙ ap (λ z. Inject c.in-Inject.server c.in-Inject.from z) (sym c.as_slice.ensures))
    (some_if (IsAnswered k c.in-Inject.server (Hears (address c.in-Inject.from.0) (reading_of c.as_slice.result.now) None k.moment)) (λ (a : Option Answer). (s : State) → IsAt k s → a ≡ answer_at (setups_of k) s e) c.inject.result c.some_answer-in-Inject.result c.some_answer-in-Inject.ensures
    (inject_answers k c.in-Inject.server c.in-Inject.from c.as_slice.result.now) c.inject.ensures.answer)

pub returns-in-Inject-clause-refused : goal.returns-in-Inject-clause-refused
returns-in-Inject-clause-refused g c =
    let k = c.args.wire.now in
    let e = Inject c.in-Inject.server c.in-Inject.from c.as_slice.result.now in
    refuses_so k c.some_answer-in-Inject.result c.args.event.now e (c.in-Inject.is ∙ ap (λ z. Inject c.in-Inject.server c.in-Inject.from z) (sym c.as_slice.ensures))
    (λ s h. some_refused c.inject.result c.some_answer-in-Inject.result (refusal (setups_of k) s e) c.some_answer-in-Inject.ensures
    (inject_refused k c.in-Inject.server c.in-Inject.from c.as_slice.result.now c.inject.result c.inject.ensures.refused s h))
