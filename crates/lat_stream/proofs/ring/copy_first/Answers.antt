use Rattle.lat_stream.proofs.RingItems.{parts_copied}
use Rattle.lat_stream.proofs.ring.copy_first.Goals as goal

pub returns : goal.returns
returns c =
    parts_copied c.args.out.now c.write_bytes.new.out c.write_bytes-2.new.out c.min-from_front.result c.as_slices.result.0.now c.as_slices.result.1.now c.args.bytes.now.items
    c.min-from_front.ensures c.as_slices.ensures c.write_bytes.ensures c.write_bytes-2.ensures
