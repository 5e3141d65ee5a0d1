use Rattle.std.proofs.Common.{◌≡◌, ◌+◌, ◌≤◌, length}
use Rattle.lat_schedule.specs.Places.{many, adds}
use Rattle.lat_record.specs.Cursors.{place}
use Rattle.lat_record.specs.RecordRead.{entries_at, one_entry}
use Rattle.lat_record.proofs.lists.entries_of.Given as goal

abbrev pub invariant-loop-next : goal.invariant-loop-next
invariant-loop-next l =
    record {
      value : entries_at (place l.at) ≡ many (adds one_entry) l.entries (place l.rest);
      count : length l.entries + length l.rest.text.now ≤ length l.at.text.now;
    }

abbrev pub decreases-loop-next : goal.decreases-loop-next
decreases-loop-next l = length l.rest.text.now
