use Rattle.std.proofs.Common.{◌≡◌, [], length}
use Rattle.lat_machines.specs.values.Addresses.{address}
use Rattle.lat_lines.specs.circuits.Kept.{SameCircuits}
use Rattle.lat_lines.specs.circuits.Ending.{outlives_one}
use Rattle.lat_lines.proofs.circuits.Each.{Done}
use Rattle.lat_lines.proofs.circuits.Circuits.outlive.Given as goal

abbrev pub invariant-loop-at : goal.invariant-loop-at
invariant-loop-at l = record {
  same : SameCircuits l.initial.self l.self;
  end : l.at-end ≡ length l.initial.self.held;
  did : Done (outlives_one (address l.from.0) l.source) l.at l.initial.self l.self [] [];
}
