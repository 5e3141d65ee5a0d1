use Rattle.std.proofs.Common.{◌≡◌, ◌+◌, ◌≤◌, ◌++◌, length, take, map}
use Rattle.lat_model.specs.ends.End.{End, marked}
use Rattle.lat_model.specs.numbers.Link.{again_frames}
use Rattle.lat_circuit.specs.Frames.{frame_sent}
use Rattle.lat_circuit.specs.Stands.{Stands}
use Rattle.lat_circuit.proofs.circuit.Circuit.repeat_all.Given as goal

abbrev pub invariant-loop-place : goal.invariant-loop-place
invariant-loop-place l = record {
  count : l.count ≡ l.self.link.sending.unacknowledged;
  few : l.count ≤ 8;
  length : length l.out ≡ length l.initial.out + l.place;
  frames : (e : End) → Stands l.self e → l.out ≡ l.initial.out ++ take l.place (map (frame_sent l.self.facts) (marked (again_frames e.half.link)));
}
