use Rattle.std.proofs.Common.{◌≡◌, length, take}
use Rattle.lat_wire.specs.Kept.{setups_of}
use Rattle.lat_replay.specs.Played.{State}
use Rattle.lat_trace.specs.Shown.{IsAt}
use Rattle.lat_trace.proofs.Playing.{Reaches}
use Rattle.lat_trace.proofs.play.play.Given as goal

abbrev pub invariant-loop-index : goal.invariant-loop-index
invariant-loop-index g l = record {
  setups : setups_of l.wire ≡ setups_of l.initial.wire;
  count : length l.entries ≡ l.index;
  reaches : (s : State) → IsAt l.initial.wire s → Reaches (setups_of l.initial.wire) s (take l.index l.events) l.wire l.entries;
}
