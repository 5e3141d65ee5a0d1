use Rattle.std.proofs.Common.{◌≡◌, take}
use Rattle.lat_replay.specs.Kept.{setups_of}
use Rattle.lat_replay.specs.Played.{State, StandsAt}
use Rattle.lat_replay.proofs.Playing.{Reaches}
use Rattle.lat_replay.proofs.world.World.play.Given as goal

abbrev pub invariant-loop-index : goal.invariant-loop-index
invariant-loop-index g l = record {
  setups : setups_of l.self ≡ setups_of l.initial.self;
  reaches : (s : State) → StandsAt l.initial.self s → Reaches (setups_of l.initial.self) s (take l.index l.events) l.self;
}
