-- What the lines of a record say, and the first one that is wrong or missing.
use Rattle.std.specs.Prelude.{◌≡◌, ℕ, List, [], length, Option, Result, Ok, Err, codes, nat_eq, if◌then◌else◌}
use Rattle.lat_frames.specs.declared.timing.Timing.{Timing}
use Rattle.lat_server.specs.declared.config.Offer.{Offer}
use Rattle.lat_schedule.specs.Places.{Place, must, many, adds, ◌>>=◌}
use Rattle.lat_schedule.specs.ScheduleText.{word_at}
use Rattle.lat_schedule.specs.SetupLines.{offer_of}
use Rattle.lat_record.specs.declared.entry.Entry.{Entry}
use Rattle.lat_record.specs.declared.fault.RecordFault.{RecordFault}
use Rattle.lat_record.specs.declared.fault.RecordFault.TheVariants.{Form, Memory}
use Rattle.lat_record.specs.declared.opening.Opening.{Opening}
use Rattle.lat_record.specs.declared.opening.Opening.TheVariants as openings
use Rattle.lat_record.specs.declared.opening.Rate.{Rate}
use Rattle.lat_record.specs.declared.read.Record.{Record}
use Rattle.lat_record.specs.declared.read.Stop.{Stop}
use Rattle.lat_record.specs.declared.read.Stop.TheVariants as stops
use Rattle.lat_record.specs.declared.role_line.CoreLine.{CoreLine}
use Rattle.lat_record.specs.declared.role_line.NodeLine.{NodeLine}
use Rattle.lat_record.specs.declared.role_line.RoleLine.{RoleLine}
use Rattle.lat_record.specs.declared.role_line.RoleLine.TheVariants.{Server, Switch, Node}
use Rattle.lat_record.specs.Cursors.{first_place, number_of, over_at}
use Rattle.lat_record.specs.EntryRead.{entry_of}
use Rattle.lat_record.specs.OpeningRead.{role_of, circuit_of, server_groups_of, node_groups_of, service_of, rate_of}

-- the offers of a server that has so many lines, and the lines behind theirs
abbrev pub offers_at : (lines : ℕ) → Place → List Offer × Place
offers_at lines at = many (adds (offer_of lines)) [] at

-- one service more, behind others
abbrev pub one_service : (others : List (List ℕ)) → List ℕ → Option (List ℕ)
one_service others line = service_of (length others) line

-- one rate more
abbrev pub one_rate : (others : List Rate) → List ℕ → Option Rate
one_rate others line = rate_of line

-- one event more
abbrev pub one_entry : (others : List Entry) → List ℕ → Option Entry
one_entry others line = entry_of line

-- the services of a node, and the lines behind theirs
abbrev pub services_at : Place → List (List ℕ) × Place
services_at at = many (adds one_service) [] at

-- the rates, and the lines behind theirs
abbrev pub rates_at : Place → List Rate × Place
rates_at at = many (adds one_rate) [] at

-- the events with the words of their answers, and the lines behind theirs
abbrev pub entries_at : Place → List Entry × Place
entries_at at = many (adds one_entry) [] at

abbrev pub server_made : CoreLine → Timing → List Offer → (groups : List ℕ) → Opening
server_made core timing offers groups = openings.Server (record {
  own = core.station.own;
  name = core.station.name;
  lines = core.station.lines;
  offers = offers;
  groups = groups;
  timing = timing;
  prompt = core.start.prompt;
  first = core.start.first;
})

abbrev pub switch_made : CoreLine → Timing → (groups : List ℕ) → Opening
switch_made core timing groups = openings.Switch (record {
  own = core.station.own;
  name = core.station.name;
  lines = core.station.lines;
  groups = groups;
  timing = timing;
  prompt = core.start.prompt;
  first = core.start.first;
})

abbrev pub node_made : NodeLine → Timing → (groups : List ℕ) → (services : List (List ℕ)) → List Rate → Opening
node_made node timing groups services rates = openings.Node (record {
  config = record {
    own = node.core.station.own;
    name = node.core.station.name;
    incarnation = node.incarnation;
    lines = node.core.station.lines;
    services = services;
    timer = node.timer;
    groups = groups;
    timing = timing;
    prompt = node.core.start.prompt;
    first = node.core.start.first;
  };
  rates = rates;
})

-- behind the circuits' line of a server: the groups and the offers
abbrev pub server_at : CoreLine → Timing → Place → Result (Opening × Place) ℕ
server_at core timing at = do
  groups ← must server_groups_of at
  offers ← Ok (offers_at core.station.lines groups.1)
  Ok (server_made core timing offers.0 groups.0, offers.1)

-- behind that of a switch: the groups
abbrev pub switch_at : CoreLine → Timing → Place → Result (Opening × Place) ℕ
switch_at core timing at = do
  groups ← must server_groups_of at
  Ok (switch_made core timing groups.0, groups.1)

-- the services and their rates, as many of these as of those
abbrev pub rated_at : Place → Result ((List (List ℕ) × List Rate) × Place) ℕ
rated_at at =
    let services = services_at at in
    let rates = rates_at services.1 in
    if nat_eq (length rates.0) (length services.0) then Ok ((services.0, rates.0), rates.1) else Err (number_of rates.1)

-- behind that of a node: the groups, the services and their rates
abbrev pub node_at : NodeLine → Timing → Place → Result (Opening × Place) ℕ
node_at node timing at = do
  groups ← must node_groups_of at
  rated ← rated_at groups.1
  Ok (node_made node timing groups.0 rated.0.0 rated.0.1, rated.1)

abbrev pub core_at : RoleLine → Timing → Place → Result (Opening × Place) ℕ
core_at (Server core) timing at = server_at core timing at
core_at (Switch core) timing at = switch_at core timing at
core_at (Node node) timing at = node_at node timing at

-- What the core was made of, and the lines of the events: the form's own line, the core's, that of its circuits, the others of its
-- role, and `go`
abbrev pub opening_at : Place → Result (Opening × Place) ℕ
opening_at at = do
  second ← word_at (codes "lat record 1") at
  role ← must role_of second
  timing ← must circuit_of role.1
  core ← core_at role.0 timing.0 timing.1
  began ← word_at (codes "go") core.1
  Ok (core.0, began)

-- the events, with no line behind them
abbrev pub events_at : Place → Result (List Entry) ℕ
events_at at = do
  over ← over_at (entries_at at).1
  Ok (entries_at at).0

-- the record that lines say: the opening and the events
abbrev pub record_at : Place → Result Record ℕ
record_at at = do
  began ← opening_at at
  entries ← events_at began.1
  Ok (record { opening = began.0; first = number_of began.1; entries = entries })

-- what a call that reads lines answers, seen by view, is what reading gives; want of memory may stand in place of either
abbrev pub ReadsAll : {X Y : Type 0} → (X → Y) → Result X Stop → Result Y ℕ → Type 0
ReadsAll view (Ok x) read = Ok (view x) ≡ read
ReadsAll view (Err (stops.Line number)) read = Err number ≡ read
ReadsAll view (Err stops.Memory) read = Unit {0}

-- the record that a text is, or the number of its first line that is wrong or missing
abbrev pub record_of : List ℕ → Result Record ℕ
record_of text = record_at (first_place text)

-- what a call that reads a record answers; want of memory may stand in place of any answer
abbrev pub ReadsRecord : Result Record RecordFault → List ℕ → Type 0
ReadsRecord (Ok r) text = Ok r ≡ record_of text
ReadsRecord (Err (Form number)) text = Err number ≡ record_of text
ReadsRecord (Err Memory) text = Unit {0}
