use Rattle.std.proofs.Common.{◌≡◌, length}
use Rattle.lat_schedule.specs.Places.{many, adds}
use Rattle.lat_record.specs.Cursors.{place}
use Rattle.lat_record.specs.RecordRead.{rates_at, one_rate}
use Rattle.lat_record.proofs.lists.rates_of.Given as goal

abbrev pub invariant-loop-next : goal.invariant-loop-next
invariant-loop-next l = rates_at (place l.at) ≡ many (adds one_rate) l.rates (place l.rest)

abbrev pub decreases-loop-next : goal.decreases-loop-next
decreases-loop-next l = length l.rest.text.now
