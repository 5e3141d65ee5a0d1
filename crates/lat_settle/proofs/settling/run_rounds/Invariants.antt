use Rattle.std.proofs.Common.{◌≡◌, ◌≤◌}
use Rattle.lat_replay.specs.Kept.{moment_of, setups_of}
use Rattle.lat_replay.specs.Played.{State, StandsAt}
use Rattle.lat_settle.specs.Rounds.{rounds_moment}
use Rattle.lat_settle.proofs.Running.{Running}
use Rattle.lat_settle.proofs.settling.run_rounds.Given as goal

abbrev pub invariant-loop-place : goal.invariant-loop-place
invariant-loop-place g l = record {
  within : l.place ≤ l.rounds;
  setups : setups_of l.world ≡ setups_of l.initial.world;
  moment : moment_of l.world ≡ rounds_moment (setups_of l.initial.world) (moment_of l.initial.world) l.place;
  running : (s : State) → StandsAt l.initial.world s → Running (setups_of l.initial.world) s l.place l.world;
}
