-- The text of a schedule: its lines in order, and the first one that is wrong or missing.
use Rattle.std.specs.Prelude.{◌≡◌, ℕ, List, length, get_or, Option, Some, None, Result, Ok, Err, nat_lt, bytes_eq, codes, if◌then◌else◌}
use Rattle.lat_node.specs.declared.config.NodeConfig.{NodeConfig}
use Rattle.lat_server.specs.declared.config.Offer.{Offer}
use Rattle.lat_server.specs.declared.config.ServerConfig.{ServerConfig}
use Rattle.lat_schedule.specs.declared.front.Front.{Front}
use Rattle.lat_schedule.specs.declared.groups.Groups.{Groups}
use Rattle.lat_schedule.specs.declared.schedule.Schedule.{Schedule}
use Rattle.lat_schedule.specs.declared.schedule.ScheduleFault.{ScheduleFault}
use Rattle.lat_schedule.specs.declared.schedule.ScheduleFault.TheVariants.{Form, Events, Memory}
use Rattle.lat_schedule.specs.declared.setup.Setup.{Setup}
use Rattle.lat_schedule.specs.Front.{front_at}
use Rattle.lat_schedule.specs.Groups.{groups_at}
use Rattle.lat_schedule.specs.Listed.{services_at, offers_at, events_at, saturated_number}
use Rattle.lat_schedule.specs.Places.{Place, must, nothing_at, opening, ◌>>=◌}

-- what the server is made of
abbrev pub server_made : Front → (groups : List ℕ) → List Offer → ServerConfig
server_made front groups offers = record {
  own = front.server.own;
  name = front.server.name;
  lines = front.server.lines;
  offers = offers;
  groups = groups;
  timing = front.circuit.server;
  prompt = front.server.opening.prompt;
  first = front.server.opening.first;
}

-- what the node is made of
abbrev pub node_made : Front → (groups : List ℕ) → (services : List (List ℕ)) → NodeConfig
node_made front groups services = record {
  own = front.node.own;
  name = front.node.name;
  incarnation = front.node.incarnation;
  lines = front.node.lines;
  services = services;
  timer = front.node.timer;
  groups = groups;
  timing = front.circuit.node;
  prompt = front.node.opening.prompt;
  first = front.node.opening.first;
}

abbrev pub setup_of : Front → Groups → List (List ℕ) → List Offer → Setup
setup_of front groups services offers = record { server = server_made front groups.server offers; node = node_made front groups.node services }

-- What both cores are made of where the first four lines say this, by the lines behind them, and the lines behind those: the
-- groups, the services and the offers
abbrev pub setup_at : Front → Place → Setup × Place
setup_at front at =
    let groups = groups_at front.version at in
    let services = services_at groups.1 in
    let offers = offers_at front.server.lines services.1 in
    (setup_of front groups.0 services.0 offers.0, offers.1)

-- a line of one word
abbrev pub if_word : List ℕ → List ℕ → Option (Unit {0})
if_word word line = if bytes_eq line word then Some tt else None

-- the lines behind a line that must be this word
abbrev pub word_at : List ℕ → Place → Result Place ℕ
word_at word at = do
  next ← must (if_word word) at
  Ok next.1

-- `end`, with nothing behind it
abbrev pub ending_at : Place → Result (Unit {0}) ℕ
ending_at at = do
  behind ← word_at (codes "end") at
  nothing_at behind

-- The schedule that lines say: the first four, the groups, the services, the offers, `go`, the events, and `end` with
-- nothing behind it. Or the number of the first line that is wrong or missing
abbrev pub schedule_at : Place → Result Schedule ℕ
schedule_at at = do
  front ← front_at at
  made ← Ok (setup_at front.0 front.1)
  began ← word_at (codes "go") made.1
  listed ← Ok (events_at front.0.version front.0.server.own began)
  ended ← ending_at listed.1
  Ok (record { setup = made.0; lines = listed.0.lines; events = listed.0.events })

abbrev pub form_at : ℕ → ScheduleFault
form_at number = Form (saturated_number number)

-- a schedule has 100,000 events at most
abbrev pub within_limit : Schedule → Result Schedule ScheduleFault
within_limit s = if nat_lt 100000 (length s.events) then Err (Events (get_or s.lines 100000 0)) else Ok s

abbrev pub answer_of : Result Schedule ℕ → Result Schedule ScheduleFault
answer_of (Ok schedule) = within_limit schedule
answer_of (Err number) = Err (form_at number)

-- the schedule that a text is, or why it is none
abbrev pub schedule_of : List ℕ → Result Schedule ScheduleFault
schedule_of text = answer_of (schedule_at (opening text))

-- what a call that reads a schedule answers; want of memory may stand in place of any answer
abbrev pub ReadsSchedule : Result Schedule ScheduleFault → List ℕ → Type 0
ReadsSchedule (Err Memory) text = Unit {0}
ReadsSchedule (Err (Form line)) text = Err (Form line) ≡ schedule_of text
ReadsSchedule (Err (Events line)) text = Err (Events line) ≡ schedule_of text
ReadsSchedule (Ok schedule) text = Ok schedule ≡ schedule_of text
