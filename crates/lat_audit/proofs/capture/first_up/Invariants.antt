use Rattle.std.proofs.Common.{◌≡◌, drop}
use Rattle.std.specs.Prelude.{option_map}
use Rattle.lat_machines.specs.world.Machines.{Machines}
use Rattle.lat_captures.specs.Captured.{first_up}
use Rattle.lat_wire.specs.Kept.{setups_of}
use Rattle.lat_wire.specs.Stands.{Stands}
use Rattle.lat_audit.specs.Runs.{seen_of}
use Rattle.lat_audit.proofs.capture.first_up.Given as goal

abbrev pub invariant-loop-index : goal.invariant-loop-index
invariant-loop-index g l =
    (w : Machines) → Stands l.wire w → option_map seen_of (first_up (setups_of l.wire) l.tap.circuit w.posts) ≡ option_map seen_of (first_up (setups_of l.wire) l.tap.circuit (drop l.index w.posts))
