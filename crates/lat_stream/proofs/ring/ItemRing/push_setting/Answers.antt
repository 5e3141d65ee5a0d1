use Rattle.std.proofs.Common.{◌≡◌, ◌<◌, ◌&&◌, ◌∷◌, [], ◌++◌, true, cond, length, nat_lt, sym, ap, ◌∙◌, arith, Fits-le, Fits-lit}
use Rattle.lat_base.specs.declared.item.Item.TheVariants as kept_items
use Rattle.lat_stream.specs.RingItems.{RingItems, settings_in}
use Rattle.lat_stream.proofs.RingItems.{room_is, has_both, setting_comes}
use Rattle.lat_stream.proofs.ring.ItemRing.push_setting.Goals as goal

pub overflow_cast-gap : goal.overflow_cast-gap
overflow_cast-gap c =
    let ps = c.self.inside.settings in
    let bs = c.self.inside.bytes in
    let room : (length bs.items < bs.capacity) × (length ps.items < ps.capacity) =
    has_both (length bs.items) bs.capacity (length ps.items) ps.capacity (room_is ps bs c.self.inside.trailing c.args.self.now c.self.invariant c.self.view_is ∙ sym c.has_room.ensures ∙ c.if-not-has_room.false) in
    Fits-le {n = 65535} (omega (arith, c.self.invariant.0, c.self.invariant.2, room.0)) (Fits-lit tt)

pub invariant_of-self : goal.invariant_of-self
invariant_of-self c =
    let ps = c.self.inside.settings in
    let bs = c.self.inside.bytes in
    let room : (length bs.items < bs.capacity) × (length ps.items < ps.capacity) =
    has_both (length bs.items) bs.capacity (length ps.items) ps.capacity (room_is ps bs c.self.inside.trailing c.args.self.now c.self.invariant c.self.view_is ∙ sym c.has_room.ensures ∙ c.if-not-has_room.false) in
    (setting_comes ps c.push_back.new.self bs c.push_back-2.new.self c.self.inside.trailing c.args.setting c.args.self.now c.self.invariant c.self.view_is room c.push_back.ensures.items c.push_back-2.ensures.items).0

pub returns : goal.returns
returns c =
    let ps = c.self.inside.settings in
    let bs = c.self.inside.bytes in
    let now : RingItems = c.args.self.now in
    let free : (nat_lt (length now.items) now.capacity && nat_lt (settings_in now.items) now.settings) ≡ true = sym c.has_room.ensures ∙ c.if-not-has_room.false in
    let room : (length bs.items < bs.capacity) × (length ps.items < ps.capacity) =
    has_both (length bs.items) bs.capacity (length ps.items) ps.capacity (room_is ps bs c.self.inside.trailing now c.self.invariant c.self.view_is ∙ free) in
    (setting_comes ps c.push_back.new.self bs c.push_back-2.new.self c.self.inside.trailing c.args.setting now c.self.invariant c.self.view_is room c.push_back.ensures.items c.push_back-2.ensures.items).1
    ∙ ap (λ b. cond b (record now { items = now.items ++ kept_items.Set c.args.setting ∷ [] }) now) (sym free)
