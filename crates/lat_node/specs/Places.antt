-- The services whose ratings a node asks its rule for, by their places.
use Rattle.std.specs.Prelude.{ℕ, zero, suc, cond, List, [], ◌∷◌, length, Option, Some, None, nat_eq, position}
use Rattle.std.specs.List.{AllZip}
use Rattle.lat_machines.specs.node.Node.{NodeConfig, Node}
use Rattle.lat_machines.specs.values.Addresses.{everyone}
use Rattle.lat_machines.specs.values.Events.{Event, Hears, Announces}
use Rattle.lat_machines.specs.values.Frames.{Reading, Whole, OfNotice}
use Rattle.lat_machines.specs.values.Names.{same}
use Rattle.lat_machines.specs.values.Notices.{Notice, AnnouncementNotice, CommandNotice, StatusNotice, SolicitNotice, ResponseNotice}

-- so many places, from one on
abbrev pub places_from : ℕ → ℕ → List ℕ
places_from first zero = []
places_from first (suc n) = first ∷ places_from (suc first) n

-- the places of all services, counted from 0
abbrev pub places : NodeConfig → List ℕ
places config = places_from 0 (length config.services)

-- for the Response that of its service, and then all
abbrev pub response_places : NodeConfig → Option ℕ → List ℕ
response_places config None = []
response_places config (Some place) = place ∷ places config

abbrev pub notice_places : NodeConfig → Notice → List ℕ
notice_places config (SolicitNotice n) = response_places config (position (same n.service) config.services)
notice_places config (StatusNotice n) = []
notice_places config (AnnouncementNotice n) = []
notice_places config (CommandNotice n) = []
notice_places config (ResponseNotice n) = []

abbrev pub reading_places : NodeConfig → Reading → List ℕ
reading_places config (Whole (OfNotice n)) = notice_places config n
reading_places config reading = []

-- whose ratings go out at an event of a node that isn't halted
abbrev pub event_places : NodeConfig → Event → List ℕ
event_places config Announces = places config
event_places config (Hears from payload k now) = cond (nat_eq from everyone) [] (reading_places config payload)
event_places config e = []

-- the places of the services whose ratings go out at an event, in their order: none once the node is halted
abbrev pub asked_places : NodeConfig → Node → Event → List ℕ
asked_places config s e = cond s.halted [] (event_places config e)

-- each rating is one that may be given of the service at its place, where so many of so many lines are used
abbrev pub AreRates : (ℕ → ℕ → ℕ → ℕ → Type 0) → (used max : ℕ) → (places rates : List ℕ) → Type 0
AreRates may used max places rates = AllZip (λ place rate. may place used max rate) places rates
