use Rattle.std.proofs.Common.{◌≡◌, take}
use Rattle.std.specs.List.{sum_by}
use Rattle.lat_stream.specs.Kept.{saturated}
use Rattle.lat_replay.specs.Counts.{put_in_row}
use Rattle.lat_replay.proofs.counts.put_in.Given as goal

abbrev pub invariant-loop-row : goal.invariant-loop-row
invariant-loop-row l = l.sum ≡ saturated (sum_by put_in_row (take l.row-index l.rows))
