use Rattle.std.proofs.Common.{◌≡◌, ◌++◌, ◌∷◌, [], List, length, ap, ◌∙◌, arith}
use Rattle.lat_base.specs.declared.item.Item.{Item}
use Rattle.lat_base.specs.declared.item.Item.TheVariants as kept_items
use Rattle.lat_stream.specs.Kept.{Kept}
use Rattle.lat_stream.specs.RingItems.{RingItems}
use Rattle.lat_stream.proofs.RingItems.{setting_added}
use Rattle.lat_stream.proofs.stream.Stream.add_setting.Goals as goal

pub returns : goal.returns
returns c =
    let ring : RingItems = c.self.inside.unframed in
    let now : Kept = c.args.self.now in
    let same : ring.items ≡ now.unframed = ap (λ (k : Kept). k.unframed) c.self.view_is in
    let added : c.push_setting.new.self.items ≡ ring.items ++ kept_items.Set c.args.setting ∷ [] =
    setting_added ring c.push_setting.new.self c.args.setting (omega (arith, ap length same, c.requires, c.self.invariant.0)) (omega (arith, c.self.invariant.0, c.self.invariant.1)) c.push_setting.ensures in
    ap (λ (k : Kept). record k { unframed = c.push_setting.new.self.items }) c.self.view_is
    ∙ ap (λ (xs : List Item). record now { unframed = xs }) (added ∙ ap (λ xs. xs ++ kept_items.Set c.args.setting ∷ []) same)
