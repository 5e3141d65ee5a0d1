use Rattle.std.proofs.Common.{◌≡◌, length, map, take}
use Rattle.lat_base.specs.declared.item.Item.TheVariants as kept_items
use Rattle.lat_stream.proofs.ring.write_bytes.Given as goal

abbrev pub invariant-loop-i : goal.invariant-loop-i
invariant-loop-i l = (take l.i l.out ≡ map kept_items.Byte (take l.i l.bytes)) × (length l.out ≡ length l.bytes)
