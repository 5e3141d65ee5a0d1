use Rattle.std.proofs.Common.{◌≡◌, length}
use Rattle.lat_base.specs.Names.{IsName}
use Rattle.lat_model.specs.Lists.{Each}
use Rattle.lat_schedule.specs.Listed.{services_at}
use Rattle.lat_schedule.specs.Places.{many, adds, place}
use Rattle.lat_schedule.specs.SetupLines.{service_of}
use Rattle.lat_schedule.proofs.listed.services_of.Given as goal

abbrev pub invariant-loop-next : goal.invariant-loop-next
invariant-loop-next l =
    record {
      value : services_at (place l.at) ≡ many (adds service_of) l.services (place l.rest);
      names : Each IsName l.services;
    }

abbrev pub decreases-loop-next : goal.decreases-loop-next
decreases-loop-next l = length l.rest.text.now
