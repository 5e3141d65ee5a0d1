use Rattle.std.proofs.Common.{◌≡◌, List, subst, string_bytes}
use Rattle.lat_trace.specs.declared.entry.Entry as kept
use Rattle.lat_trace.specs.Fates.{AreCounts}
use Rattle.lat_draw.specs.Layout.{played}
use Rattle.lat_draw.specs.Placed.{IsLayout}
use Rattle.lat_draw.proofs.Picturing.{picture_is, counts_all, counts_played}
use Rattle.lat_draw.proofs.picture.picture_onto.Goals as goal

pub returns : goal.returns
returns g c = λ r s.
    let run = c.args.run.now in
    let events : c.as_slice-events.result.now ≡ run.schedule.events = c.as_slice-events.ensures in
    let entries : c.as_slice-entries.result.now ≡ run.entries = c.as_slice-entries.ensures in
    let all : AreCounts c.in_ok-all.all r.schedule.events = counts_all run r s c.in_ok-all.all _ events c.in_ok-all.ensures.counts in
    let drawn : AreCounts c.in_ok-drawn.drawn (played r) = counts_played run r s c.in_ok-drawn.drawn _ _ events entries c.in_ok-drawn.ensures.counts in
    let lay : IsLayout (played r) run.entries c.in_ok-layout.layout =
    subst (λ (x : List kept.Entry). IsLayout (played r) x c.in_ok-layout.layout) entries (c.in_ok-layout.ensures.layout (played r) drawn) in
    picture_is run r s c.in_ok-layout.layout lay c.height-bottom.result c.height-bottom.ensures.value (string_bytes c.args.text.now) _ _ _ _ _ c.in_ok-front_onto.ensures c.in_ok-life_onto.ensures c.in_ok-life_onto-2.ensures (c.in_ok-entries_onto.ensures r s all drawn lay) c.in_ok-end_onto.ensures
