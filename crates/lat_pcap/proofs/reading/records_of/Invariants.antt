use Rattle.std.proofs.Common.{◌≡◌, ◌+◌, ◌-◌, ◌≤◌, length, drop, None}
use Rattle.lat_pcap.specs.Held.{records_at}
use Rattle.lat_pcap.proofs.Loop.{joined}
use Rattle.lat_pcap.proofs.reading.records_of.Given as goal

abbrev pub invariant-loop : goal.invariant-loop
invariant-loop l = record {
  same : joined l.contents (records_at (l.end - l.counter) l.head l.at (drop l.at l.bytes)) ≡ records_at (length l.bytes + 1) l.head l.place (drop l.place l.bytes);
  within : l.at ≤ length l.bytes;
  end_is : l.end ≡ length l.bytes + 1;
  right : l.contents.wrong ≡ None;
  few : l.contents.others ≤ l.counter;
}
