use Rattle.std.proofs.Common.{◌≡◌, ◌<◌, ◌+◌, ◌++◌, List, length, take, refl, sym, ap, ◌∙◌, string_bytes, arith}
use Rattle.std.specs.Prelude.{get_or}
use Rattle.lat_schedule.specs.declared.event.WorldEvent.{WorldEvent}
use Rattle.lat_schedule.specs.declared.schedule.Schedule.{Schedule}
use Rattle.lat_trace.specs.Entries.{came_in}
use Rattle.lat_trace.specs.Shown.{IsWithin}
use Rattle.lat_trace.specs.declared.entry.Entry as kept
use Rattle.lat_wire.specs.Kept.{frame_count}
use Rattle.lat_draw.specs.declared.layout.Place.{Place}
use Rattle.lat_draw.specs.Events.{told, came_drawn, happened_drawn, entries_drawn}
use Rattle.lat_draw.specs.Layout.{height, played}
use Rattle.lat_draw.specs.Lines.{margin}
use Rattle.lat_draw.proofs.Appending.{append_none, take_whole}
use Rattle.lat_draw.proofs.Entering.{entries_length, entries_more, rows_made}
use Rattle.lat_draw.proofs.Picturing.{within_all}
use Rattle.lat_draw.proofs.Rows.{each_at}
use Rattle.lat_draw.proofs.picture.entries_onto.Goals as goal

pub loop-place-init : goal.loop-place-init
unfolding entries_drawn
loop-place-init g c = λ r s all drawn lay. sym (append_none (string_bytes c.args.text.now))

pub stubs_onto-requires-clause-within : goal.stubs_onto-requires-clause-within
stubs_onto-requires-clause-within g c =
    let run = c.args.run.now in
    let n = c.loop-place.place in
    let k = c.entry-item.result in
    let same = c.as_slice-entry-items.ensures in
    let low : n < length run.entries = omega (arith, ap length same) in
    let shows = c.requires.shows in
    each_at (IsWithin (frame_count run.wire)) run.entries n k (within_all run shows.0 shows.1 (frame_count run.wire) refl) low
    (c.entry-item.is ∙ ap (λ (z : List kept.Entry). get_or z n k) same)

pub loop-place-preserved : goal.loop-place-preserved
loop-place-preserved g c = λ r s all drawn lay.
    let run = c.args.run.now in
    let n = c.loop-place.place in
    let k = c.entry-item.result in
    let same = c.as_slice-entry-items.ensures in
    let low : n < length run.entries = omega (arith, ap length same) in
    let events : c.as_slice-events.result.now ≡ r.schedule.events = c.as_slice-events.ensures ∙ ap (λ (x : Schedule). x.events) s.schedule in
    let y = c.height-y.ensures.value in
    let e = c.index-events-place.result in
    let d = c.index.result.now in
    let is : e ≡ get_or r.schedule.events n e = c.index-events-place.is ∙ ap (λ (z : List WorldEvent). get_or z n e) events in
    let at : d.row ≡ (get_or c.args.layout.now.places.items n d).row = ap (λ (p : Place). p.row) c.index.ensures in
    let h1 : string_bytes c.margin_onto.new.text ≡ string_bytes c.loop-place.text ++ margin (height d.row) (n + 1) k.moment =
    c.in_ok-margin_onto.ensures ∙ ap (λ m. string_bytes c.loop-place.text ++ margin m (n + 1) k.moment) y in
    let h2 : string_bytes c.happened_onto.new.text ≡ string_bytes c.margin_onto.new.text ++ happened_drawn (height d.row) (told e (came_in s.world.posts e)) e k.answer =
    c.in_ok-happened_onto.ensures
    ∙ (ap (λ m. string_bytes c.margin_onto.new.text ++ happened_drawn m c.told.result e k.answer) y
    ∙ ap (λ b. string_bytes c.margin_onto.new.text ++ happened_drawn (height d.row) b e k.answer) (c.told.ensures s.world s.stands)) in
    let before = take n c.as_slice-events.result.now in
    let h3 : string_bytes c.came_onto.new.text ≡ string_bytes c.happened_onto.new.text ++ came_drawn (played r) before r.entries d.row e (came_in s.world.posts e) =
    c.in_ok-came_onto.ensures s.world (played r) r.entries s.stands (rows_made run r s c.args.layout.now lay) in
    entries_more run r s c.args.layout.now lay n k e d low (c.entry-item.is ∙ ap (λ (z : List kept.Entry). get_or z n k) same) is d.row at before (ap (take n) events)
    (string_bytes c.args.text.now) (string_bytes c.loop-place.text) (string_bytes c.margin_onto.new.text) (string_bytes c.happened_onto.new.text) (string_bytes c.came_onto.new.text) (string_bytes c.stubs_onto.new.text)
    (c.loop-place.invariant r s all drawn lay) h1 h2 h3 (c.in_ok-stubs_onto.ensures s.world r.schedule.events (played r) s.stands all drawn)

pub returns : goal.returns
returns g c = λ r s all drawn lay.
    let long = entries_length c.args.run.now r s in
    c.loop-place.invariant r s all drawn lay
    ∙ ap (λ z. string_bytes c.args.text.now ++ entries_drawn r 0 z) (take_whole c.loop-place.place r.entries (omega (arith, long, ap length c.as_slice-entry-items.ensures)))
