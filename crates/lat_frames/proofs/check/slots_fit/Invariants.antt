use Rattle.std.proofs.Common.{◌≡◌, ◌+◌, length, take}
use Rattle.std.specs.List.{flat_map, AllByRecursion}
use Rattle.lat_slots.specs.Layout.{IsWritable, slot_text}
use Rattle.lat_frames.proofs.check.slots_fit.Given as goal

abbrev pub invariant-loop-slot : goal.invariant-loop-slot
invariant-loop-slot l = record {
  each : AllByRecursion IsWritable (take l.slot-index l.slots);
  left : l.left + length (flat_map slot_text (take l.slot-index l.slots)) ≡ l.most;
}
