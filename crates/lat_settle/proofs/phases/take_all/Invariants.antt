use Rattle.std.proofs.Common.{◌≡◌}
use Rattle.lat_replay.specs.Kept.{moment_of, setups_of}
use Rattle.lat_replay.specs.Played.{State, StandsAt}
use Rattle.lat_settle.proofs.Turns.{Taking}
use Rattle.lat_settle.proofs.phases.take_all.Given as goal

abbrev pub invariant-loop-place : goal.invariant-loop-place
invariant-loop-place g l = record {
  setups : setups_of l.world ≡ setups_of l.initial.world;
  moment : moment_of l.world ≡ moment_of l.initial.world;
  takes : (s : State) → StandsAt l.initial.world s → Taking (setups_of l.initial.world) s l.server l.lines l.place l.world;
}
