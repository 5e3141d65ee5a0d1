use Rattle.std.proofs.Common.{◌≡◌, ap, subst, arith, refl, length, Some, slice_get, List, ◌<◌}
use Rattle.std.specs.Prelude.{string_bytes}
use Rattle.std.proofs.lemmas.Option.{slice_get_read}
use Rattle.lat_schedule.specs.declared.event.WorldEvent.{WorldEvent}
use Rattle.lat_schedule.specs.declared.schedule.Schedule.{Schedule}
use Rattle.lat_trace.specs.declared.entry.Entry.{Entry}
use Rattle.lat_trace.proofs.Printing.{all_printed, counts_so, entry_printed}
use Rattle.lat_trace.proofs.print.trace_onto.Goals as goal

pub loop-place-preserved : goal.loop-place-preserved
loop-place-preserved g c = λ r s.
    let place = c.loop-place.place in
    let x = c.index-entries-place.result in
    let e = c.index-events-place.result in
    let events = c.as_slice-events.result.now in
    let entries = c.as_slice-entries.result.now in
    let within : place < length events = omega (arith, c.loop-place-test.true, ap length c.as_slice-entries.ensures, ap length c.as_slice-events.ensures, s.few, ap (λ (z : Schedule). length z.events) s.schedule) in
    entry_printed c.args.run.now r place _ x e (string_bytes c.args.text.now) (string_bytes c.loop-place.text) (string_bytes c.entry_onto.new.text) s refl
    (subst (λ (z : List Entry). slice_get z place ≡ Some x) c.as_slice-entries.ensures (slice_get_read entries (length entries) place x refl c.loop-place-test.true c.index-entries-place.is))
    (subst (λ (z : List WorldEvent). slice_get z place ≡ Some e) c.as_slice-events.ensures (slice_get_read events (length events) place e refl within c.index-events-place.is))
    (c.loop-place.invariant r s)
    (c.in_ok-entry_onto.ensures s.world r.schedule.events s.stands (counts_so c.args.run.now r c.in_ok-fates.fates events s c.as_slice-events.ensures c.in_ok-fates.ensures.counts))

pub returns : goal.returns
returns g c = λ r s.
    all_printed c.args.run.now r c.loop-place.place (string_bytes c.args.text.now) (string_bytes c.loop-place.text) (string_bytes c.last_onto.new.text) s
    (omega (arith, c.loop-place-test.false, ap length c.as_slice-entries.ensures)) (c.loop-place.invariant r s) c.in_ok-last_onto.ensures
