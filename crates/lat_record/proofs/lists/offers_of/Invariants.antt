use Rattle.std.proofs.Common.{◌≡◌, length}
use Rattle.lat_server.specs.Config.{AreOffers}
use Rattle.lat_schedule.specs.Places.{many, adds}
use Rattle.lat_schedule.specs.SetupLines.{offer_of}
use Rattle.lat_record.specs.Cursors.{place}
use Rattle.lat_record.specs.RecordRead.{offers_at}
use Rattle.lat_record.proofs.lists.offers_of.Given as goal

abbrev pub invariant-loop-next : goal.invariant-loop-next
invariant-loop-next l =
    record {
      value : offers_at l.lines (place l.at) ≡ many (adds (offer_of l.lines)) l.offers (place l.rest);
      offers : AreOffers l.lines l.offers;
    }

abbrev pub decreases-loop-next : goal.decreases-loop-next
decreases-loop-next l = length l.rest.text.now
