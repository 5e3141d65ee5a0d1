use Rattle.std.proofs.Common.{◌≡◌, ◌+◌, ◌-◌, ◌≤◌, length, drop}
use Rattle.lat_fields.specs.ParamsReading.{params_at}
use Rattle.lat_fields.proofs.ParamsLoop.{with_front}
use Rattle.lat_fields.proofs.params_read.params_of.Given as goal

abbrev pub invariant-loop : goal.invariant-loop
invariant-loop l = record {
  same : with_front l.entries (params_at (l.end - l.counter) l.at (drop l.at l.bytes)) ≡ params_at (length l.bytes + 1) l.place (drop l.place l.bytes);
  within : l.at ≤ length l.bytes;
  end_is : l.end ≡ length l.bytes + 1;
}
