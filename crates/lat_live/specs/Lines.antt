-- What the lines of a daemon are for, and where they listen, by its words.
use Rattle.std.specs.Prelude.{ℕ, ◌+◌, ◌-◌, ◌==◌, if◌then◌else◌, Bool, true, false, List, [], ◌∷◌, map, Option, Some, None, option_map, find, filter_map}
use Rattle.std.specs.List.{list_any, range_with_len}
use Rattle.lat_words.specs.Seats.{is_portless}
use Rattle.lat_words.specs.declared.config.Role.{Role}
use Rattle.lat_words.specs.declared.config.Role.TheVariants as roles
use Rattle.lat_words.specs.declared.settings.Offer.{Offer}
use Rattle.lat_words.specs.declared.settings.Seats.{Seats}
use Rattle.lat_words.specs.declared.settings.Service.{Service}
use Rattle.lat_turns.specs.declared.door.Device.{Device}
use Rattle.lat_turns.specs.declared.kept.Stay.{Stay}
use Rattle.lat_turns.specs.declared.kept.Stay.TheVariants as stays
use Rattle.lat_live.specs.declared.plan.Post.{Post}
use Rattle.lat_live.specs.declared.plan.Post.TheVariants as posts
use Rattle.lat_live.specs.declared.plan.LinePlan.{LinePlan}

-- what a line offers, if anything
abbrev pub offer_of : List Offer → ℕ → Option Offer
offer_of offers line = find (λ (o : Offer). o.line == line) offers

abbrev pub first_name : List Service → Option (List ℕ)
first_name [] = None
first_name (s ∷ more) = Some s.name

-- callers are connected to this service; where there is none, the line waits for sessions, as a node's
abbrev pub connecting : (List ℕ → Post) → Option (List ℕ) → Post
connecting post (Some service) = post service
connecting post None = posts.Answering

-- a line of a server that offers nothing connects its callers
abbrev pub server_post : List Service → Option Offer → Post
server_post services (Some o) = posts.Offering (record { service = o.name; port = o.port })
server_post services None = connecting (λ service. posts.Calling service) (first_name services)

abbrev pub switch_post : List Service → Post
switch_post services = connecting (λ service. posts.Switching service) (first_name services)

-- what the line of this number is for
abbrev pub post_of : Role → Seats → ℕ → Post
post_of roles.Server seats line = server_post seats.services.items (offer_of seats.offers.items line)
post_of roles.Switch seats line = switch_post seats.services.items
post_of roles.Node seats line = posts.Answering
post_of roles.Tariff seats line = posts.Answering

-- whether somebody may come to a line: not where it offers, and at a node only where a service has no port of its own
abbrev pub is_open : List Service → Post → Bool
is_open services (posts.Offering d) = false
is_open services posts.Answering = list_any is_portless services
is_open services _ = true

-- each line's port is the one behind that of the line before it
abbrev pub port_of : Option ℕ → ℕ → Bool → Option ℕ
port_of first line true = option_map (λ n. n + (line - 1)) first
port_of first line false = None

abbrev pub line_at : Seats → ℕ → Post → LinePlan
line_at seats line post = record { post = post; port = port_of seats.line_port line (is_open seats.services.items post) }

abbrev pub line_of : Role → Seats → ℕ → LinePlan
line_of role seats line = line_at seats line (post_of role seats line)

-- all lines, by rising number
abbrev pub lines_of : Role → Seats → List LinePlan
lines_of role seats = map (line_of role seats) (range_with_len 1 seats.lines)

-- a service with a port is for the device there
abbrev pub device_of : Service → Option Device
device_of s = option_map (λ port. record { service = s.name; port = port }) s.port

abbrev pub devices_of : List Service → List Device
devices_of services = filter_map device_of services

-- each line serves one caller alone, or caller after caller
abbrev pub stay_of : Bool → Stay
stay_of once = if once then stays.OneCaller else stays.Always
