use Rattle.std.proofs.Common.{◌≡◌, ◌-◌, ◌∙◌, sym, ap, subst}
use Rattle.circular_buffer.specs.Buffer.{buffer, keep_last}
use Rattle.lat_stream.specs.RingItems.{span}
use Rattle.lat_stream.proofs.RingItems.{IsRing, some_go}
use Rattle.lat_stream.proofs.ring.ItemRing.drop_first.Goals as goal

pub invariant_of-self : goal.invariant_of-self
invariant_of-self c =
    let ps = c.self.inside.settings in
    let bs = c.self.inside.bytes in
    let left : c.saturating_sub-self-inside.result ≡ c.self.inside.trailing - (c.args.count - span ps.items) =
    c.saturating_sub-self-inside.ensures ∙ ap (λ n. c.self.inside.trailing - n) c.drop_settings-left.ensures.left in
    subst (IsRing c.drop_settings-left.new.settings c.truncate_front.new.self) (sym left)
    (some_go ps c.drop_settings-left.new.settings bs c.truncate_front.new.self c.self.inside.trailing c.args.count c.args.self.now c.self.invariant c.self.view_is c.drop_settings-left.ensures.settings
    (c.truncate_front.ensures ∙ ap (λ n. buffer (keep_last n bs.items) bs.capacity) (c.saturating_sub-kept.ensures ∙ ap (λ n. n - c.args.count) c.len.ensures.len))).0

pub returns : goal.returns
returns c =
    let ps = c.self.inside.settings in
    let bs = c.self.inside.bytes in
    (some_go ps c.drop_settings-left.new.settings bs c.truncate_front.new.self c.self.inside.trailing c.args.count c.args.self.now c.self.invariant c.self.view_is c.drop_settings-left.ensures.settings
    (c.truncate_front.ensures ∙ ap (λ n. buffer (keep_last n bs.items) bs.capacity) (c.saturating_sub-kept.ensures ∙ ap (λ n. n - c.args.count) c.len.ensures.len))).1
