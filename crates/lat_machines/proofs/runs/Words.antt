-- The words of the computed examples: names, addresses, the usual configurations, and moves.
use Rattle.std.proofs.Common.{ℕ, zero, suc, Bool, true, false, List, [], ◌∷◌, map, Option}
use Rattle.lat_model.specs.sessions.Slots.{Item, Byte, Slot}
use Rattle.lat_model.specs.ends.End.{Mark}
use Rattle.lat_machines.specs.values.Names.{Name}
use Rattle.lat_machines.specs.values.Timing.{Timing}
use Rattle.lat_machines.specs.values.Messages.{Head, StartInfo, Message, RunMessage, StartMessage}
use Rattle.lat_machines.specs.values.Notices.{Kept, Service, Action, Notice, AnnouncementNotice, CommandNotice}
use Rattle.lat_machines.specs.values.Frames.{OfCircuit, OfNotice, OfRun, OutFrame, Reading, Whole, plain}
use Rattle.lat_machines.specs.values.Keys.{Key}
use Rattle.lat_machines.specs.values.Events.{Event}
use Rattle.lat_machines.specs.values.Answers.{Answer}
use Rattle.lat_machines.specs.cores.Books.{SessionEnd}
use Rattle.lat_machines.specs.server.Server.{Offer, ServerConfig}
use Rattle.lat_machines.specs.node.Node.{NodeConfig}
use Rattle.lat_machines.specs.world.Machines.{Setups, Posted, NotedEvent, Machines, Move, Does, HearsFrame, HearsForeign, run, open_machines}
use Rattle.lat_machines.specs.world.Reports.{Report, Row, RecordRow, Direction, report}
use Rattle.lat_machines.specs.world.Safe.{answer_by}

-- names, in capitals and in small letters

abbrev pub vax : Name
vax = 86 ∷ 65 ∷ 88 ∷ []

abbrev pub small_vax : Name
small_vax = 118 ∷ 97 ∷ 120 ∷ []

abbrev pub prn : Name
prn = 80 ∷ 82 ∷ 78 ∷ []

abbrev pub small_prn : Name
small_prn = 112 ∷ 114 ∷ 110 ∷ []

abbrev pub ts1 : Name
ts1 = 84 ∷ 83 ∷ 49 ∷ []

abbrev pub vax1 : Name
vax1 = 86 ∷ 65 ∷ 88 ∷ 49 ∷ []

abbrev pub small_vax1 : Name
small_vax1 = 118 ∷ 97 ∷ 120 ∷ 49 ∷ []

-- addresses: AA-00-04-00-01-04, AA-00-04-00-02-04, and 02-00-00-00-00-0A of a stranger

abbrev pub server_at : ℕ
server_at = 186917043831044

abbrev pub node_at : ℕ
node_at = 186917043831300

abbrev pub stranger : ℕ
stranger = 2199023255562

-- configurations: two lines each, the usual timing, all groups

abbrev pub usual : Timing
usual = record { timer = 8; keepalive = 20; sessions = 64; extra = 7; ceiling = 4; wide = false }

abbrev pub all_groups : ℕ → List ℕ
all_groups zero = []
all_groups (suc n) = 255 ∷ all_groups n

abbrev pub server_of : List Offer → ServerConfig
server_of offers = record { own = server_at; name = ts1; lines = 2; offers = offers; groups = all_groups 32; timing = usual; prompt = false; first = 1 }

abbrev pub node_of : List Name → NodeConfig
node_of services = record { own = node_at; name = vax1; incarnation = 1; lines = 2; services = services; timer = 30; groups = []; timing = usual; prompt = false; first = 1 }

-- the node offers VAX
abbrev pub offering : Setups
offering = record { server = server_of []; node = node_of (vax ∷ []) }

-- the server's second line offers a service under this name
abbrev pub printing : Name → Setups
printing name = record { server = server_of (record { line = 2; service = name } ∷ []); node = node_of [] }

-- moves; the node's hook gives 2 where both of its lines are free

abbrev pub s : Event → Move
s e = Does true e []

abbrev pub n : Event → Move
n e = Does false e (2 ∷ [])

abbrev pub deliver : ℕ → ℕ → Move
deliver now i = HearsFrame i now (2 ∷ 2 ∷ [])

-- what a stranger sends to the server, and to the node

abbrev pub to_server : ℕ → Reading → Move
to_server now r = HearsForeign true stranger r now []

abbrev pub to_node : ℕ → Reading → Move
to_node now r = HearsForeign false stranger r now []

abbrev pub message : Message → Reading
message m = Whole (OfCircuit m)

abbrev pub notice : Notice → Reading
notice m = Whole (OfNotice m)

-- the START of a stranger that calls itself TS1, from its circuit of this id
abbrev pub stranger_info : StartInfo
stranger_info = record {
  size = 576;
  eco = 1;
  sessions = 64;
  extra = 7;
  timer = 8;
  keepalive = 20;
  facility = 0;
  product = 0;
  product_version = 0;
  slave = vax1;
  name = ts1;
  location = [];
  params = [];
}

abbrev pub stranger_start : ℕ → Reading
stranger_start id = message (StartMessage true false 0 id stranger_info)

-- a RUN from the master's circuit 1 to the slave's circuit 1, with these number fields
abbrev pub master_run : ℕ → ℕ → List Slot → Reading
master_run seq ack slots = message (RunMessage (record { master = true; ask = false; to = 1; from = 1; seq = seq; ack = ack }) slots)

abbrev pub announcing : Name → ℕ → List ℕ → List Service → Reading
announcing node timer groups services =
    notice (AnnouncementNotice (record { timer = timer; incarnation = 1; groups = groups; node = node; description = []; services = services }))

abbrev pub rated : ℕ → Name → Service
rated rating name = record { rating = rating; name = name; description = [] }

abbrev pub commanding : Action → Name → ℕ → Name → Reading
commanding action node id service =
    notice (CommandNotice (record { incarnation = 1; request = id; action = action; node = node; service = service }))

-- what comes of it

abbrev pub after : Setups → List Move → Machines
after u moves = run u moves (open_machines u)

abbrev pub told : Setups → List Move → Report
told u moves = report u (after u moves)

abbrev pub frames : Setups → List Move → List OutFrame
frames u moves = map (λ (p : Posted). p.frame) (after u moves).posts

abbrev pub answer_of_server : Setups → List Move → Event → Answer
answer_of_server u moves e = answer_by u (after u moves) true e

abbrev pub answer_of_node : Setups → List Move → Event → Answer
answer_of_node u moves e = answer_by u (after u moves) false e

-- the parts of a report

abbrev pub bytes : List ℕ → List Item
bytes bs = map Byte bs

abbrev pub way : List Item → List Item → ℕ → ℕ → Direction
way put taken given used = record { put = put; taken = taken; given = given; used_up = used }

abbrev pub unused : Direction
unused = way [] [] 0 0

abbrev pub session : ℕ → Option ℕ → Option SessionEnd → Direction → Direction → Row
session line node_line ended up down = record { line = line; node_line = node_line; ended = ended; up = up; down = down }

abbrev pub noted : ℕ → Answer → NotedEvent
noted event answer = record { event = event; answer = answer }

abbrev pub key : ℕ → Key
key id = record { node = vax1; incarnation = 1; request = id }

abbrev pub request : ℕ → Name → Kept → RecordRow
request id service kept = record { key = key id; service = service; kept = kept }

-- a report without requests
abbrev pub shows : ℕ → List Row → List NotedEvent → Report
shows frames sessions noted = record { frames = frames; sessions = sessions; requests = []; granted = []; noted = noted }

-- frames: of a circuit, and RUNs with their mark and numbers

abbrev pub circuit_frame : ℕ → ℕ → Message → OutFrame
circuit_frame to circuit m = plain to circuit (OfCircuit m)

abbrev pub run_frame : ℕ → Mark → Head → ℕ → ℕ → List Slot → OutFrame
run_frame to mark head number acknowledgement slots = record {
  to = to;
  circuit = head.from;
  mark = OfRun mark;
  number = number;
  acknowledgement = acknowledgement;
  value = OfCircuit (RunMessage head slots);
}

-- the head of a RUN between circuit 1 of both ends
abbrev pub head : Bool → ℕ → ℕ → Head
head master seq ack = record { master = master; ask = false; to = 1; from = 1; seq = seq; ack = ack }

abbrev pub hello : List ℕ
hello = 104 ∷ 101 ∷ 108 ∷ 108 ∷ 111 ∷ []

abbrev pub hi : List ℕ
hi = 104 ∷ 105 ∷ []
