use Rattle.std.proofs.Common.{◌≡◌, ◌-◌, ◌≤◌, length, drop}
use Rattle.lat_frames.specs.Reading.{slots_at}
use Rattle.lat_frames.proofs.SlotsLoop.{with_front}
use Rattle.lat_frames.proofs.read_run.slots_of.Given as goal

abbrev pub invariant-loop : goal.invariant-loop
invariant-loop l = record {
  same : with_front l.slots (slots_at (l.count - l.counter) l.at (drop l.at l.payload)) ≡ slots_at l.count l.place (drop l.place l.payload);
  within : l.at ≤ length l.payload;
}
