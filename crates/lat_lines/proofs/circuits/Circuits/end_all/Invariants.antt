use Rattle.std.proofs.Common.{◌≡◌, ◌+◌, ◌≤◌, length}
use Rattle.lat_frames.specs.Reasons.{end_bits}
use Rattle.lat_lines.specs.circuits.Kept.{side_of, SameCircuits}
use Rattle.lat_lines.specs.circuits.Ending.{ends_one}
use Rattle.lat_lines.proofs.circuits.Each.{Done}
use Rattle.lat_lines.proofs.circuits.Circuits.end_all.Given as goal

abbrev pub invariant-loop-at : goal.invariant-loop-at
invariant-loop-at l = record {
  same : SameCircuits l.initial.self l.self;
  end : l.at-end ≡ length l.initial.self.held;
  most : length l.out ≤ length l.initial.out + l.at;
  did : Done (ends_one (side_of l.initial.self) (end_bits l.reason)) l.at l.initial.self l.self l.initial.out l.out;
}
