use Rattle.std.proofs.Common.{◌≡◌, ◌≤◌, ◌++◌, ◌∙◌, length, map, take, sym, ap, arith}
use Rattle.lat_base.specs.declared.item.Item.TheVariants as kept_items
use Rattle.lat_stream.specs.RingItems.{RingItems, with_settings}
use Rattle.lat_stream.specs.Turns.{leading}
use Rattle.lat_stream.proofs.RingItems.{length-shown, leading_first, leading_within}
use Rattle.lat_stream.proofs.ring.ItemRing.move_bytes.Goals as goal

pub append_first-requires-clause-count : goal.append_first-requires-clause-count
append_first-requires-clause-count c =
    let all : length c.self.inside.bytes.items ≡ length c.args.self.now.items =
    sym (length-shown c.self.inside.settings.items c.self.inside.bytes.items) ∙ ap (λ (r : RingItems). length r.items) c.self.view_is in
    omega (arith, all, c.requires.bytes, c.from-count.ensures, leading_within c.args.self.now.items)

pub returns-clause-bytes : goal.returns-clause-bytes
returns-clause-bytes c =
    let ps = c.self.inside.settings.items in
    let bs = c.self.inside.bytes.items in
    let few : c.args.count ≤ length (leading (with_settings ps (map kept_items.Byte bs))) = omega (arith, c.requires.bytes, ap (λ (r : RingItems). length (leading r.items)) c.self.view_is) in
    c.append_first.ensures
    ∙ ap (λ n. c.args.out.now ++ take n bs) c.from-count.ensures
    ∙ ap (λ z. c.args.out.now ++ z) (sym (leading_first c.args.count ps bs (omega (arith, c.self.invariant.0)) few))
    ∙ ap (λ (r : RingItems). c.args.out.now ++ take c.args.count (leading r.items)) c.self.view_is
