-- The services, the offers and the events of a schedule: as many lines of each as there are.
use Rattle.std.specs.Prelude.{ℕ, ◌-◌, ◌^◌, min, List, [], ◌∷◌, ◌++◌, Option, option_map}
use Rattle.lat_base.specs.declared.addr.Addr.{Addr}
use Rattle.lat_server.specs.declared.config.Offer.{Offer}
use Rattle.lat_schedule.specs.declared.event.WorldEvent.{WorldEvent}
use Rattle.lat_schedule.specs.declared.listed.Listed.{Listed}
use Rattle.lat_schedule.specs.declared.setup_line.Version.{Version}
use Rattle.lat_schedule.specs.EventLines.{event_of}
use Rattle.lat_schedule.specs.Places.{Place, many, adds}
use Rattle.lat_schedule.specs.SetupLines.{service_of, offer_of}

-- the services that the node offers, and the lines behind theirs
abbrev pub services_at : Place → List (List ℕ) × Place
services_at at = many (adds service_of) [] at

-- the offers of a server that has so many lines
abbrev pub offers_at : (lines : ℕ) → Place → List Offer × Place
offers_at lines at = many (adds (offer_of lines)) [] at

-- a line number as it is told
abbrev pub saturated_number : ℕ → ℕ
saturated_number number = min number (2 ^ 32 - 1)

abbrev pub one_more : Listed → ℕ → WorldEvent → Listed
one_more listed number event = record { lines = listed.lines ++ saturated_number number ∷ []; events = listed.events ++ event ∷ [] }

-- the line of this number goes on where it says an event
abbrev pub goes_on : Version → Addr → Listed → ℕ → List ℕ → Option Listed
goes_on version to listed number line = option_map (one_more listed number) (event_of version to line)

abbrev pub none_listed : Listed
none_listed = record { lines = []; events = [] }

-- the events with the numbers of their lines
abbrev pub events_at : Version → Addr → Place → Listed × Place
events_at version to at = many (goes_on version to) none_listed at
