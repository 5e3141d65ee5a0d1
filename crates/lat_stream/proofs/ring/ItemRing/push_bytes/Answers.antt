use Rattle.std.proofs.Common.{◌-◌, length, take, min, sym, ap, ◌∙◌}
use Rattle.lat_stream.specs.RingItems.{RingItems}
use Rattle.lat_stream.proofs.RingItems.{length-shown, bytes_come}
use Rattle.lat_stream.proofs.ring.ItemRing.push_bytes.Goals as goal

pub returns-clause-count : goal.returns-clause-count
returns-clause-count c =
    c.fill_from_slice-count.ensures.count
    ∙ ap (λ n. min (length c.args.bytes.now) (c.self.inside.bytes.capacity - n)) (sym (length-shown c.self.inside.settings.items c.self.inside.bytes.items))
    ∙ ap (λ (r : RingItems). min (length c.args.bytes.now) (r.capacity - length r.items)) c.self.view_is

pub returns-clause-items : goal.returns-clause-items
returns-clause-items c =
    bytes_come c.self.inside.settings c.self.inside.bytes c.fill_from_slice-count.new.self c.self.inside.trailing
    (take c.fill_from_slice-count.result c.args.bytes.now) c.args.self.now c.self.invariant c.fill_from_slice-count.ensures.items c.self.view_is
