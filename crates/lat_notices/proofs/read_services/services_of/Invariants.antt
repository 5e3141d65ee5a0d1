use Rattle.std.proofs.Common.{◌≡◌, ◌-◌, ◌≤◌, length, drop}
use Rattle.lat_notices.specs.ServicesReading.{services_at}
use Rattle.lat_notices.proofs.ServicesLoop.{with_front}
use Rattle.lat_notices.proofs.read_services.services_of.Given as goal

abbrev pub invariant-loop : goal.invariant-loop
invariant-loop l = record {
  same : with_front l.services (services_at (l.count - l.counter) l.at (drop l.at l.bytes)) ≡ services_at l.count l.place (drop l.place l.bytes);
  within : l.at ≤ length l.bytes;
}
