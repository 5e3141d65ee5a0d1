use Rattle.std.proofs.Common.{◌≡◌, length}
use Rattle.lat_model.specs.Lists.{Each}
use Rattle.lat_schedule.specs.Events.{IsEvent}
use Rattle.lat_schedule.specs.Listed.{goes_on, events_at}
use Rattle.lat_schedule.specs.Places.{many, place}
use Rattle.lat_schedule.proofs.listed.events_of.Given as goal

abbrev pub invariant-loop-next : goal.invariant-loop-next
invariant-loop-next l =
    record {
      value : events_at l.fn.version l.fn.to (place l.at) ≡ many (goes_on l.fn.version l.fn.to) (record { lines = l.lines; events = l.events }) (place l.rest);
      events : Each (IsEvent l.fn.to) l.events;
    }

abbrev pub decreases-loop-next : goal.decreases-loop-next
decreases-loop-next l = length l.rest.text.now
