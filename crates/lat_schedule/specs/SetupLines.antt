-- The lines in front of the events: what both cores are made of.
use Rattle.std.specs.Prelude.{ℕ, Bool, true, false, ◌||◌, List, Option, Some, None, option_and_then, length, nat_eq, nat_le, bytes_eq, codes, if◌then◌else◌}
use Rattle.std.specs.List.{list_any}
use Rattle.lat_base.specs.declared.addr.Addr.{Addr}
use Rattle.lat_frames.specs.declared.timing.Timing.{Timing}
use Rattle.lat_machines.specs.values.Addresses.{address, everyone}
use Rattle.lat_machines.specs.values.Names.{same}
use Rattle.lat_server.specs.declared.config.Offer.{Offer}
use Rattle.lat_text.specs.Words.{first_word, behind_word}
use Rattle.lat_text.specs.Numbers.{number_within}
use Rattle.lat_text.specs.Digits.{address_of, bytes_of, mask_of}
use Rattle.lat_text.specs.NameWritten.{name_of}
use Rattle.lat_schedule.specs.declared.setup_line.Version.{Version}
use Rattle.lat_schedule.specs.declared.setup_line.Version.TheVariants.{One, Two, Three}
use Rattle.lat_schedule.specs.declared.setup_line.ServerLine.{ServerLine}
use Rattle.lat_schedule.specs.declared.setup_line.NodeLine.{NodeLine}
use Rattle.lat_schedule.specs.declared.setup_line.CircuitLine.{CircuitLine}
use Rattle.lat_schedule.specs.declared.setup_line.Numbers.{Numbers}
use Rattle.lat_schedule.specs.EventLines.{◌>>=◌}
use Rattle.lat_schedule.specs.Openings.{opening_of}

-- `lat 1`, `lat 2` or `lat 3`
abbrev pub version_of : List ℕ → Option Version
version_of line =
    if bytes_eq line (codes "lat 1") then Some One
    else if bytes_eq line (codes "lat 2") then Some Two
    else if bytes_eq line (codes "lat 3") then Some Three
    else None

-- the address of a station, which isn't that of everyone
abbrev pub station_of : List ℕ → Option Addr
station_of text = do
  own ← address_of text
  if nat_eq (address own.0) everyone then None else Some own

-- `server ADDR NAME LINES`, 1 to 32 lines, and what the words behind say
abbrev pub server_of : Version → List ℕ → Option ServerLine
server_of version line = do
  text ← behind_word (codes "server") line
  first ← first_word text
  second ← first_word first.1
  last ← opening_of version second.1
  own ← station_of first.0
  name ← name_of second.0
  lines ← number_within 1 32 last.0
  Some (record { own = own; name = name; lines = lines; opening = last.1 })

-- `node ADDR NAME LINES INCARNATION TIMER`, 1 to 64 lines, and what the words behind say, not at the server's address
abbrev pub node_of : Version → Addr → List ℕ → Option NodeLine
node_of version server line = do
  text ← behind_word (codes "node") line
  first ← first_word text
  second ← first_word first.1
  third ← first_word second.1
  fourth ← first_word third.1
  last ← opening_of version fourth.1
  own ← station_of first.0
  name ← name_of second.0
  lines ← number_within 1 64 third.0
  incarnation ← number_within 0 65535 fourth.0
  timer ← number_within 1 255 last.0
  if nat_eq (address own.0) (address server.0) then None else Some (record {
    own = own;
    name = name;
    lines = lines;
    incarnation = incarnation;
    timer = timer;
    opening = last.1;
  })

-- whether the circuits' numbers have two bytes
abbrev pub span_of : List ℕ → Option Bool
span_of word = if bytes_eq word (codes "word") then Some true else if bytes_eq word (codes "byte") then Some false else None

-- `TIMER KEEPALIVE SESSIONS EXTRA`, and what stands behind
abbrev pub numbers_of : List ℕ → Option (Numbers × List ℕ)
numbers_of text = do
  first ← first_word text
  second ← first_word first.1
  third ← first_word second.1
  fourth ← first_word third.1
  timer ← number_within 1 100 first.0
  keepalive ← number_within 1 255 second.0
  sessions ← number_within 1 64 third.0
  extra ← number_within 0 255 fourth.0
  Some (record { timer = timer; keepalive = keepalive; sessions = sessions; extra = extra }, fourth.1)

abbrev pub timing_of : Numbers → (ceiling : ℕ) → (wide : Bool) → Timing
timing_of n ceiling wide = record {
  timer = n.timer;
  keepalive = n.keepalive;
  sessions = n.sessions;
  extra = n.extra;
  ceiling = ceiling;
  wide = wide;
}

-- behind `circuit ` in the first version: the four numbers and `CEILING`
abbrev pub narrow_of : List ℕ → Option CircuitLine
narrow_of text = do
  numbers ← numbers_of text
  ceiling ← number_within 1 15 numbers.1
  Some (record { server = timing_of numbers.0 ceiling false; node = timing_of numbers.0 ceiling false })

-- in the others: the four numbers and `CEILING SPAN SPAN`, the server's span first
abbrev pub wide_of : List ℕ → Option CircuitLine
wide_of text = do
  numbers ← numbers_of text
  first ← first_word numbers.1
  second ← first_word first.1
  ceiling ← number_within 1 15 first.0
  server ← span_of second.0
  node ← span_of second.1
  Some (record { server = timing_of numbers.0 ceiling server; node = timing_of numbers.0 ceiling node })

abbrev pub circuit_text : Version → List ℕ → Option CircuitLine
circuit_text One text = narrow_of text
circuit_text Two text = wide_of text
circuit_text Three text = wide_of text

-- the timing of both ends
abbrev pub circuit_of : Version → List ℕ → Option CircuitLine
circuit_of version line = option_and_then (circuit_text version) (behind_word (codes "circuit") line)

-- `server-groups HEX`, the mask of the groups that the server listens to
abbrev pub server_groups_of : List ℕ → Option (List ℕ)
server_groups_of line = option_and_then mask_of (behind_word (codes "server-groups") line)

-- `node-groups HEX`, the mask of the node's announcements
abbrev pub node_groups_of : List ℕ → Option (List ℕ)
node_groups_of line = option_and_then (bytes_of 2 64) (behind_word (codes "node-groups") line)

-- `service NAME`, none of these and not a 33rd one
abbrev pub service_of : List (List ℕ) → List ℕ → Option (List ℕ)
service_of others line = do
  text ← behind_word (codes "service") line
  service ← name_of text
  if nat_le 32 (length others) || list_any (same service) others then None else Some service

-- `offer LINE NAME`, of a line of so many that is in none of these offers
abbrev pub offer_of : (lines : ℕ) → List Offer → List ℕ → Option Offer
offer_of lines others line = do
  text ← behind_word (codes "offer") line
  first ← first_word text
  place ← number_within 1 lines first.0
  service ← name_of first.1
  if list_any (λ (o : Offer). nat_eq o.line place) others then None else Some (record { line = place; service = service })
