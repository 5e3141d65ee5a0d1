-- What the lines in front of the events say.
use Rattle.std.specs.Prelude.{ℕ, Bool, true, false, List, [], Option, Some, None, option_map, option_and_then, ◌≤◌, length, take, drop, nat_le, nat_lt, bytes_eq, codes, if◌then◌else◌}
use Rattle.std.specs.Result.{result_ok}
use Rattle.hex.specs.Hex.{decode_sized}
use Rattle.lat_frames.specs.declared.timing.Timing.{Timing}
use Rattle.lat_text.specs.Digits.{address_of}
use Rattle.lat_text.specs.NameWritten.{name_of}
use Rattle.lat_text.specs.Numbers.{number_within}
use Rattle.lat_text.specs.Words.{first_word, behind_word}
use Rattle.lat_schedule.specs.EventLines.{◌>>=◌}
use Rattle.lat_schedule.specs.SetupLines.{span_of}
use Rattle.lat_record.specs.declared.role_line.Station.{Station}
use Rattle.lat_record.specs.declared.role_line.Start.{Start}
use Rattle.lat_record.specs.declared.role_line.CoreLine.{CoreLine}
use Rattle.lat_record.specs.declared.role_line.NodeLine.{NodeLine}
use Rattle.lat_record.specs.declared.role_line.RoleLine.{RoleLine}
use Rattle.lat_record.specs.declared.role_line.RoleLine.TheVariants.{Server, Switch, Node}
use Rattle.lat_record.specs.declared.opening.Rate.{Rate}
use Rattle.lat_record.specs.declared.opening.Rate.TheVariants.{Free, Each, WhileFree}
use Rattle.lat_record.specs.EntryRead.{hex_of}

-- `ADDR`, `NAME` and `LINES`, so many lines at most
abbrev pub station_of : (most : ℕ) → (address name lines : List ℕ) → Option Station
station_of most address name lines = do
  own ← address_of address
  named ← name_of name
  count ← number_within 1 most lines
  Some (record { own = own; name = named; lines = count })

abbrev pub if_prompt : List ℕ → Option (List ℕ × List ℕ) → List ℕ × Bool
if_prompt text None = (text, false)
if_prompt text (Some first) = if bytes_eq first.1 (codes "prompt") then (first.0, true) else (text, false)

-- what stands in front of a last word `prompt`, and whether it stands there
abbrev pub before_prompt : List ℕ → List ℕ × Bool
before_prompt text = if_prompt text (first_word text)

-- `first N`, or `first N prompt`
abbrev pub start_of : List ℕ → Option Start
start_of text = do
  words ← behind_word (codes "first") text
  first ← number_within 1 65535 (before_prompt words).0
  Some (record { first = first; prompt = (before_prompt words).1 })

-- `ADDR NAME LINES`, so many lines at most, and how the core begins
abbrev pub core_of : (most : ℕ) → List ℕ → Option CoreLine
core_of most text = do
  first ← first_word text
  second ← first_word first.1
  third ← first_word second.1
  station ← station_of most first.0 second.0 third.0
  start ← start_of third.1
  Some (record { station = station; start = start })

-- behind `node `: the station, `INCARNATION TIMER`, and how it begins
abbrev pub node_of : List ℕ → Option NodeLine
node_of text = do
  first ← first_word text
  second ← first_word first.1
  third ← first_word second.1
  fourth ← first_word third.1
  fifth ← first_word fourth.1
  station ← station_of 64 first.0 second.0 third.0
  incarnation ← number_within 0 65535 fourth.0
  timer ← number_within 1 255 fifth.0
  start ← start_of fifth.1
  Some (record { core = record { station = station; start = start }; incarnation = incarnation; timer = timer })

abbrev pub role_by : (word text : List ℕ) → Option RoleLine
role_by word text =
    if bytes_eq word (codes "server") then option_map Server (core_of 32 text)
    else if bytes_eq word (codes "switch") then option_map Switch (core_of 8 text)
    else if bytes_eq word (codes "node") then option_map Node (node_of text)
    else None

-- the line of a core
abbrev pub role_of : List ℕ → Option RoleLine
role_of line = do
  first ← first_word line
  role_by first.0 first.1

-- so many lines at most, and a first id that is one
pub record Fits (most : ℕ) (core : CoreLine) : Type 0 where
  pub lines : (1 ≤ core.station.lines) × (core.station.lines ≤ most)
  pub first : (1 ≤ core.start.first) × (core.start.first ≤ 65535)

pub record FitsNode (node : NodeLine) : Type 0 where
  pub core : Fits 64 node.core
  pub timer : 1 ≤ node.timer

abbrev pub FitsRole : RoleLine → Type 0
FitsRole (Server core) = Fits 32 core
FitsRole (Switch core) = Fits 8 core
FitsRole (Node node) = FitsNode node

-- behind `circuit `: `TIMER KEEPALIVE SESSIONS EXTRA CEILING SPAN`
abbrev pub timing_of : List ℕ → Option Timing
timing_of text = do
  first ← first_word text
  second ← first_word first.1
  third ← first_word second.1
  fourth ← first_word third.1
  fifth ← first_word fourth.1
  timer ← number_within 1 100 first.0
  keepalive ← number_within 1 255 second.0
  sessions ← number_within 1 64 third.0
  extra ← number_within 0 255 fourth.0
  ceiling ← number_within 1 15 fifth.0
  wide ← span_of fifth.1
  Some (record { timer = timer; keepalive = keepalive; sessions = sessions; extra = extra; ceiling = ceiling; wide = wide })

abbrev pub circuit_of : List ℕ → Option Timing
circuit_of line = option_and_then timing_of (behind_word (codes "circuit") line)

-- a mask of 32 bytes
abbrev pub mask_of : List ℕ → Option (List ℕ)
mask_of digits = result_ok (decode_sized digits 32)

-- `server-groups HEX`
abbrev pub server_groups_of : List ℕ → Option (List ℕ)
server_groups_of line = option_and_then mask_of (behind_word (codes "server-groups") line)

abbrev pub if_short : List ℕ → Option (List ℕ)
if_short groups = if nat_lt 32 (length groups) then None else Some groups

-- `node-groups HEX`, at most 32 bytes
abbrev pub node_groups_of : List ℕ → Option (List ℕ)
node_groups_of line = do
  digits ← behind_word (codes "node-groups") line
  groups ← hex_of digits
  if_short groups

-- `service NAME` behind so many others; not a 33rd one
abbrev pub service_of : (others : ℕ) → List ℕ → Option (List ℕ)
service_of others line = do
  text ← behind_word (codes "service") line
  service ← name_of text
  if nat_lt others 32 then Some service else None

-- what stands behind these bytes, where a text begins with them
abbrev pub behind : (front text : List ℕ) → Option (List ℕ)
behind front text =
    if nat_lt (length text) (length front) then None
    else if bytes_eq (take (length front) text) front then Some (drop (length front) text)
    else None

abbrev pub while_free_of : List ℕ → Option Rate
while_free_of text = do
  number ← behind (codes "while-free:") text
  rating ← number_within 1 255 number
  Some (WhileFree rating)

abbrev pub each_or : List ℕ → Option (List ℕ) → Option Rate
each_or text None = while_free_of text
each_or text (Some number) = option_map Each (number_within 1 255 number)

-- `free`, `each:N` or `while-free:N`
abbrev pub rule_of : List ℕ → Option Rate
rule_of text = if bytes_eq text (codes "free") then Some Free else each_or text (behind (codes "each:") text)

-- `rate RULE`
abbrev pub rate_of : List ℕ → Option Rate
rate_of line = option_and_then rule_of (behind_word (codes "rate") line)
