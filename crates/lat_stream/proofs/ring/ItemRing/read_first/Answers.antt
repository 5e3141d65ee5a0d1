use Rattle.std.proofs.Common.{◌≡◌, ◌-◌, ◌∙◌, length, sym, ap, subst, arith}
use Rattle.circular_buffer.specs.Buffer.{buffer, keep_last}
use Rattle.lat_stream.specs.RingItems.{RingItems, span, behind}
use Rattle.lat_stream.proofs.RingItems.{IsRing, length-shown, some_go, some_copied}
use Rattle.lat_stream.proofs.ring.ItemRing.read_first.Goals as goal

pub copy_first-requires : goal.copy_first-requires
copy_first-requires c =
    let all : length c.self.inside.bytes.items ≡ length c.args.self.now.items =
    sym (length-shown c.self.inside.settings.items c.self.inside.bytes.items) ∙ ap (λ (r : RingItems). length r.items) c.self.view_is in
    omega (arith, all, c.requires)

pub invariant_of-self : goal.invariant_of-self
invariant_of-self c =
    let ps = c.self.inside.settings in
    let bs = c.self.inside.bytes in
    let n : length c.copy_first.new.out ≡ length c.args.out.now = c.copy_first.auto.out in
    let left : c.self.inside.trailing - c.move_settings-left.result ≡ c.self.inside.trailing - (length c.args.out.now - span ps.items) =
    ap (λ z. c.self.inside.trailing - z) (c.move_settings-left.ensures.left ∙ ap (λ z. z - span ps.items) n) in
    subst (IsRing c.move_settings-left.new.settings c.truncate_front.new.self) (sym left)
    (some_go ps c.move_settings-left.new.settings bs c.truncate_front.new.self c.self.inside.trailing (length c.args.out.now) c.args.self.now c.self.invariant c.self.view_is
    (c.move_settings-left.ensures.settings ∙ ap (λ z. buffer (behind z ps.items) ps.capacity) n)
    (c.truncate_front.ensures ∙ ap (λ z. buffer (keep_last (z - length c.args.out.now) bs.items) bs.capacity) c.len.ensures.len)).0

pub returns-clause-read : goal.returns-clause-read
returns-clause-read c =
    some_copied c.self.inside.settings c.self.inside.bytes (length c.args.out.now) c.copy_first.new.out c.move_settings-left.new.out c.args.self.now c.self.view_is c.copy_first.ensures c.move_settings-left.ensures.items

pub returns-clause-items : goal.returns-clause-items
returns-clause-items c =
    let ps = c.self.inside.settings in
    let bs = c.self.inside.bytes in
    let n : length c.copy_first.new.out ≡ length c.args.out.now = c.copy_first.auto.out in
    (some_go ps c.move_settings-left.new.settings bs c.truncate_front.new.self c.self.inside.trailing (length c.args.out.now) c.args.self.now c.self.invariant c.self.view_is
    (c.move_settings-left.ensures.settings ∙ ap (λ z. buffer (behind z ps.items) ps.capacity) n)
    (c.truncate_front.ensures ∙ ap (λ z. buffer (keep_last (z - length c.args.out.now) bs.items) bs.capacity) c.len.ensures.len)).1
