use Rattle.std.proofs.Common.{◌&&◌, length, nat_lt, sym, ap, ap₂, ◌∙◌}
use Rattle.std.proofs.lemmas.Bool.{lt-ltb, le-ltb}
use Rattle.lat_stream.proofs.RingItems.{room_is}
use Rattle.lat_stream.proofs.ring.ItemRing.has_room.Goals as goal

pub returns-then-len-capacity : goal.returns-then-len-capacity
returns-then-len-capacity c =
    let ps = c.self.inside.settings in
    let bs = c.self.inside.bytes in
    ap₂ nat_lt c.len-then-len-capacity.ensures.len c.capacity-then-len-capacity.ensures.capacity
    ∙ ap (λ b. b && nat_lt (length ps.items) ps.capacity) (sym (lt-ltb c.len.result c.capacity.result c.if-len-capacity.true) ∙ ap₂ nat_lt c.len.ensures.len c.capacity.ensures.capacity)
    ∙ room_is ps bs c.self.inside.trailing c.args.self.now c.self.invariant c.self.view_is

pub returns-else-len-capacity : goal.returns-else-len-capacity
returns-else-len-capacity c =
    let ps = c.self.inside.settings in
    let bs = c.self.inside.bytes in
    le-ltb c.len.result c.capacity.result c.if-len-capacity.false
    ∙ ap (λ b. b && nat_lt (length ps.items) ps.capacity) (sym (le-ltb c.len.result c.capacity.result c.if-len-capacity.false) ∙ ap₂ nat_lt c.len.ensures.len c.capacity.ensures.capacity)
    ∙ room_is ps bs c.self.inside.trailing c.args.self.now c.self.invariant c.self.view_is
