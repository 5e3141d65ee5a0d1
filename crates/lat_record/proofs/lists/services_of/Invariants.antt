use Rattle.std.proofs.Common.{◌≡◌, length}
use Rattle.lat_schedule.specs.Places.{many, adds}
use Rattle.lat_record.specs.Cursors.{place}
use Rattle.lat_record.specs.RecordRead.{services_at, one_service}
use Rattle.lat_record.proofs.lists.services_of.Given as goal

abbrev pub invariant-loop-next : goal.invariant-loop-next
invariant-loop-next l = services_at (place l.at) ≡ many (adds one_service) l.services (place l.rest)

abbrev pub decreases-loop-next : goal.decreases-loop-next
decreases-loop-next l = length l.rest.text.now
