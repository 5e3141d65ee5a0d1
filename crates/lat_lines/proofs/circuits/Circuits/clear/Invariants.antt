use Rattle.std.proofs.Common.{◌≡◌, ◌≤◌, length}
use Rattle.lat_machines.specs.cores.Cores.{Core}
use Rattle.lat_lines.specs.circuits.Kept.{SameCore}
use Rattle.lat_lines.specs.circuits.Stands.{Stands}
use Rattle.lat_lines.proofs.circuits.Circuits.clear.Given as goal

abbrev pub invariant-loop-at : goal.invariant-loop-at
invariant-loop-at l = record {
  core : SameCore l.initial.self l.self;
  moment : l.self.moment ≡ l.initial.self.moment;
  rooms : length l.initial.self.rooms ≤ length l.self.rooms;
  state : (c : Core) → Stands l.initial.self c → Stands l.self c;
}

abbrev pub decreases-loop-at : goal.decreases-loop-at
decreases-loop-at l = length l.self.held
