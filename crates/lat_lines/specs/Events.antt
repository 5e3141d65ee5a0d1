-- Events, as the machines know them.
use Rattle.std.specs.Prelude.{None}
use Rattle.lat_base.specs.declared.event.Event as base
use Rattle.lat_base.specs.declared.event.Event.TheVariants as events
use Rattle.lat_machines.specs.values.Addresses.{address}
use Rattle.lat_machines.specs.values.Events.{Event, Hears, Time, Connects, Puts, Sets, Takes, Attends, Closes, Requests, Withdraws, Announces, Avoids, Readies, Halts}
use Rattle.lat_payload.specs.Reads.{reading_of}

-- a payload is heard as what it reads as; the fields of a RUN tell its numbers
abbrev pub event_shown : base.Event → Event
event_shown (events.Heard from payload now) = Hears (address from.0) (reading_of payload) None now
event_shown (events.Time now) = Time now
event_shown (events.Connect line service) = Connects line service
event_shown (events.Put line bytes) = Puts line bytes
event_shown (events.Set line setting) = Sets line setting
event_shown (events.Take line n) = Takes line n
event_shown (events.Attend line flag) = Attends line flag
event_shown (events.Close line) = Closes line
event_shown (events.Request to id service) = Requests (address to.0) id service
event_shown (events.Cancel id) = Withdraws id
event_shown events.Announce = Announces
event_shown (events.Avoid line) = Avoids line
event_shown (events.Ready line ready) = Readies line ready
event_shown events.Halt = Halts
