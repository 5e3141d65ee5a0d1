use Rattle.std.proofs.Common.{ℕ, ◌+◌, ◌<◌, length, refl, ap, ◌∙◌, arith}
use Rattle.std.proofs.lemmas.List.{length-append}
use Rattle.lat_draw.specs.Placed.{places, behind}
use Rattle.lat_draw.proofs.Rows.{places_more, behind_more}
use Rattle.lat_draw.proofs.layout.Layout.of.Goals as goal

pub loop-entry-init : goal.loop-entry-init
unfolding places behind
loop-entry-init c = record { places = λ events are. c.new-places.ensures.items; row = λ events are. refl; count = ap length c.new-places.ensures.items }

pub loop-entry-preserved : goal.loop-entry-preserved
loop-entry-preserved c =
    let k = c.entry-item.result in
    let row = c.loop-entry.row in
    let i = c.loop-entry.invariant in
    let low : c.loop-entry.entry-index < length c.args.entries.now = omega arith in
    record {
      places = λ events are.
          places_more events c.args.entries.now c.loop-entry.entry-index k row c.loop-entry.places.items _ low c.entry-item.is (i.row events are) (i.places events are) c.in_ok-push.ensures.items;
      row = λ events are.
          behind_more events c.args.entries.now c.loop-entry.entry-index k row _ low c.entry-item.is (i.row events are) (c.in_ok-next.ensures ∙ ap (λ (m : ℕ). row + (m + 1)) (c.staying.ensures events are) ∙ omega arith);
      count = ap length c.in_ok-push.ensures.items ∙ (length-append c.loop-entry.places.items _ ∙ ap (λ (n : ℕ). n + 1) i.count);
    }
