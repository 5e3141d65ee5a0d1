-- How much a report tells.
use Rattle.std.specs.Prelude.{ℕ, ◌+◌, length}
use Rattle.std.specs.List.{sum_by}
use Rattle.lat_machines.specs.world.Reports as reports
use Rattle.lat_machines.specs.world.Reports.{Report}
use Rattle.lat_stream.specs.Kept.{saturated}
use Rattle.lat_replay.specs.declared.roster.row.Row.{Row}
use Rattle.lat_replay.specs.declared.counts.Counts.{Counts}

-- the items of a session, both ways
abbrev pub put_of : reports.Row → ℕ
put_of r = length r.up.put + length r.down.put

abbrev pub taken_of : reports.Row → ℕ
taken_of r = length r.up.taken + length r.down.taken

-- those of a row
abbrev pub put_in_row : Row → ℕ
put_in_row k = length k.up.put.items + length k.down.put.items

abbrev pub taken_in_row : Row → ℕ
taken_in_row k = length k.up.taken.items + length k.down.taken.items

-- frames, sessions, and the items of all sessions: the sums stop at the greatest number of 64 bits
abbrev pub counts_in : Report → Counts
counts_in r = record {
  frames = r.frames;
  sessions = length r.sessions;
  put = saturated (sum_by put_of r.sessions);
  taken = saturated (sum_by taken_of r.sessions);
}
