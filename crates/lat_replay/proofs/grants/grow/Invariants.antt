use Rattle.std.proofs.Common.{◌≡◌, ◌+◌, vec_len}
use Rattle.lat_replay.specs.Places.{SameKeys}
use Rattle.lat_replay.proofs.grants.grow.Given as goal

abbrev pub invariant-loop : goal.invariant-loop
invariant-loop l = record {
  same : SameKeys l.initial.places.items l.places.items;
  len : vec_len l.places ≡ vec_len l.initial.places + l.counter;
}
