use Rattle.std.proofs.Common.{length, sym, ap, ◌∙◌}
use Rattle.lat_stream.specs.RingItems.{RingItems}
use Rattle.lat_stream.proofs.RingItems.{length-shown}
use Rattle.lat_stream.proofs.ring.ItemRing.len.Goals as goal

pub returns-clause-len : goal.returns-clause-len
returns-clause-len c =
    c.len.ensures.len
    ∙ sym (length-shown c.self.inside.settings.items c.self.inside.bytes.items)
    ∙ ap (λ (r : RingItems). length r.items) c.self.view_is
