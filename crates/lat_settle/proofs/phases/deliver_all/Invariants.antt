use Rattle.std.proofs.Common.{◌≡◌}
use Rattle.lat_replay.specs.Kept.{moment_of, setups_of}
use Rattle.lat_replay.specs.Played.{State, StandsAt}
use Rattle.lat_settle.proofs.Turns.{Delivering}
use Rattle.lat_settle.proofs.phases.deliver_all.Given as goal

abbrev pub invariant-loop : goal.invariant-loop
invariant-loop g l = record {
  setups : setups_of l.world ≡ setups_of l.initial.world;
  moment : moment_of l.world ≡ moment_of l.initial.world;
  delivers : (s : State) → StandsAt l.initial.world s → Delivering (setups_of l.initial.world) s l.counter l.world;
}
