use Rattle.lat_stream.proofs.RingItems.{parts_added}
use Rattle.lat_stream.proofs.ring.append_first.Goals as goal

pub returns : goal.returns
returns c =
    parts_added c.args.out.now c.append.new.self c.append-2.new.self c.args.count c.min-from_front.result c.as_slices.result.0.now c.as_slices.result.1.now c.args.bytes.now.items
    c.min-from_front.ensures c.as_slices.ensures c.append.ensures c.append-2.ensures
