use Rattle.std.proofs.Common.{◌≡◌, ◌+◌, ◌-◌, ◌<◌, ◌∷◌, ◌++◌, List, length, take, drop, set, ap, sym, ◌∙◌, arith, length-drop}
use Rattle.std.proofs.lemmas.List.{length-set}
use Rattle.lat_base.specs.declared.item.Item.{Item}
use Rattle.lat_base.specs.declared.item.Item.TheVariants as kept_items
use Rattle.lat_stream.specs.RingItems.{with_settings, span, behind}
use Rattle.lat_stream.specs.declared.ring.Placed.{Placed}
use Rattle.lat_stream.proofs.RingItems.{first_is, moved_one, moved_on}
use Rattle.lat_stream.proofs.ring.move_settings.Goals as goal

pub loop-placed-preserved : goal.loop-placed-preserved
loop-placed-preserved c =
    let p : Placed = c.in-Some.placed in
    let out : List Item = c.loop-placed.out in
    let at = c.loop-placed.at in
    let ps : List Placed = c.loop-placed.settings.items in
    let rest : List Placed = drop 1 ps in
    let new : List Item = set out (at + p.gap) (kept_items.Set p.setting) in
    let e : ps ≡ p ∷ rest = first_is ps p (sym c.pop_front.ensures.value ∙ c.in-Some.is) in
    let f : c.pop_front.new.self.items ≡ rest = ap (λ z. z.items) c.pop_front.ensures.items in
    let l : length new ≡ length out = length-set out (at + p.gap) (kept_items.Set p.setting) in
    let i = c.loop-placed.invariant in
    let h : p.gap < length out - at = c.if-left-gap.false in
    let on = moved_on out new at p rest l h in (
      ap (λ z. take (at + p.gap + 1) new ++ with_settings z (drop (at + p.gap + 1) new)) f
          ∙ moved_one out at p rest (omega (arith, h))
          ∙ ap (λ z. take at out ++ with_settings z (drop at out)) (sym e)
          ∙ i.0,
      ap (λ z. behind (length new - (at + p.gap + 1)) z) f ∙ on.0 ∙ ap (behind (length out - at)) (sym e) ∙ i.1,
      ap (λ z. length new - (at + p.gap + 1) - span z) f ∙ on.1 ∙ ap (λ z. length out - at - span z) (sym e) ∙ i.2,
      l ∙ i.3,
      omega (arith, h, l),
      ap (λ z. z.capacity) c.pop_front.ensures.items ∙ i.5,
      omega (arith, i.6, ap length f, length-drop 1 ps, ap (λ z. z.capacity) c.pop_front.ensures.items),
    )
