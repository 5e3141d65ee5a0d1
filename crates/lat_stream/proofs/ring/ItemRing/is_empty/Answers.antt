use Rattle.std.proofs.Common.{◌==◌, length, sym, ap, ◌∙◌}
use Rattle.lat_stream.specs.RingItems.{RingItems}
use Rattle.lat_stream.proofs.RingItems.{length-shown}
use Rattle.lat_stream.proofs.ring.ItemRing.is_empty.Goals as goal

pub returns : goal.returns
returns c =
    c.is_empty.ensures
    ∙ ap (λ n. n == 0) (sym (length-shown c.self.inside.settings.items c.self.inside.bytes.items))
    ∙ ap (λ (r : RingItems). length r.items == 0) c.self.view_is
