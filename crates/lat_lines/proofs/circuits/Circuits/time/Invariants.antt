use Rattle.std.proofs.Common.{◌≡◌, ◌+◌, ◌*◌, ◌≤◌, length}
use Rattle.lat_lines.specs.circuits.Kept.{side_of, SameCircuits}
use Rattle.lat_lines.specs.circuits.Times.{passes_one}
use Rattle.lat_lines.proofs.circuits.Each.{Done}
use Rattle.lat_lines.proofs.circuits.Circuits.time.Given as goal

abbrev pub invariant-loop-at : goal.invariant-loop-at
invariant-loop-at l = record {
  same : SameCircuits l.initial.self l.self;
  end : l.at-end ≡ length l.initial.self.held;
  most : length l.out ≤ length l.initial.out + 16 * l.at;
  did : Done (passes_one (side_of l.initial.self)) l.at l.initial.self l.self l.initial.out l.out;
}
