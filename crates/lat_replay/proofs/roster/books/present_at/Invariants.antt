use Rattle.std.proofs.Common.{◌≤◌, ℕ}
use Rattle.lat_machines.specs.world.Machines.{Machines, core_of}
use Rattle.lat_wire.specs.Stands.{Stands}
use Rattle.lat_replay.specs.roster.Present.{NotOn}
use Rattle.lat_replay.proofs.roster.books.present_at.Given as goal

abbrev pub invariant-loop-below : goal.invariant-loop-below
invariant-loop-below g l = record {
  within : l.below ≤ l.lines;
  none : (w : Machines) (line : ℕ) → Stands l.wire w → 1 ≤ line → line ≤ l.below → NotOn (core_of w l.server) l.number line;
}
