use Rattle.std.proofs.Common.{◌≡◌, ◌++◌, string_bytes, take}
use Rattle.lat_model.specs.Lists.{Each}
use Rattle.lat_machines.specs.world.Machines.{Posted, Machines}
use Rattle.lat_audit.specs.Printed.{GoesOut}
use Rattle.lat_wire.specs.Kept.{setups_of}
use Rattle.lat_wire.specs.Stands.{Stands}
use Rattle.lat_audit.specs.Tapped.{captured_lines}
use Rattle.lat_audit.proofs.capture.entries_onto.Given as goal

abbrev pub invariant-loop-index : goal.invariant-loop-index
invariant-loop-index g l = record {
  text : (w : Machines) → Stands l.wire w → string_bytes l.text ≡ string_bytes l.initial.text ++ captured_lines (setups_of l.wire) l.tap.circuit l.slave (take l.index w.posts);
  bytes : (w : Machines) → Stands l.wire w → Each (λ (x : Posted). GoesOut x.frame) (take l.index w.posts);
}
