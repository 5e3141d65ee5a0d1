-- The events of a record, told to a machine.
use Rattle.std.specs.Prelude.{◌≡◌, ℕ, ◌+◌, List, [], ◌∷◌, length, Option, Some, None, Result, Ok, Err, bytes_eq, if◌then◌else◌}
use Rattle.lat_base.specs.declared.answer.Answer.{Answer}
use Rattle.lat_base.specs.declared.event.Event.{Event}
use Rattle.lat_base.specs.declared.look.LineLook.{LineLook}
use Rattle.lat_machines.specs.node.Node.{open_node}
use Rattle.lat_machines.specs.server.Server.{open_server}
use Rattle.lat_node.specs.Config as node
use Rattle.lat_node.specs.declared.config.NodeConfig.{NodeConfig}
use Rattle.lat_node.specs.Looks as node_looks
use Rattle.lat_node.specs.Stands as nodes
use Rattle.lat_print.specs.AnswerWords.{answer_words}
use Rattle.lat_record.specs.declared.entry.Entry.{Entry}
use Rattle.lat_record.specs.declared.opening.Opening.{Opening}
use Rattle.lat_record.specs.declared.opening.Opening.TheVariants.{Server, Switch, Node}
use Rattle.lat_record.specs.declared.read.Record.{Record}
use Rattle.lat_record.specs.RecordRead.{record_of}
use Rattle.lat_server.specs.Config as server
use Rattle.lat_server.specs.declared.config.ServerConfig.{ServerConfig}
use Rattle.lat_server.specs.Looks as server_looks
use Rattle.lat_server.specs.Stands as servers
use Rattle.lat_switch.specs.Config.{open_switch}
use Rattle.lat_switch.specs.Core as switches
use Rattle.lat_switch.specs.Looks as switch_looks
use Rattle.lat_text.specs.WrongLine.{wrong_line}
use Rattle.lat_rerun.specs.RowText.{agrees_text, differs_text, rows_of}

-- the state behind the events
unfoldable pub run_to : {S : Type 0} → (next : S → Event → S) → S → List Entry → S
run_to next s [] = s
run_to next s (e ∷ es) = run_to next (next s e.event) es

-- The place of the first event whose answer has other words than those that stand there; the first event has this place
unfoldable pub differs_from : {S : Type 0} → (next : S → Event → S) → (answer : S → Event → Answer) → ℕ → S → List Entry → Option ℕ
differs_from next answer place s [] = None
differs_from next answer place s (e ∷ es) =
    if bytes_eq e.answer (answer_words (answer s e.event)) then differs_from next answer (place + 1) (next s e.event) es else Some place

-- the first of the entries, and those behind it
abbrev pub first_of : List Entry → Option (Entry × List Entry)
first_of [] = None
first_of (e ∷ es) = Some (e, es)

-- a core that is told entries stands for a state from which the rest of them, of which the first has this place, lead where all of
-- them lead
pub record Led {C S : Type 0} (next : S → Event → S) (answer : S → Event → Answer) (stands : C → S → Type 0) (core : C) (s : S)
    (all : List Entry) (place : ℕ) (rest : List Entry) : Type 0 where
  pub state : S
  pub now : stands core state
  pub differs : differs_from next answer 0 s all ≡ differs_from next answer place state rest
  pub run : run_to next s all ≡ run_to next state rest

-- what is told of this: the status and the text
abbrev pub told_by : (first count : ℕ) → (rows : List ℕ) → Option ℕ → ℕ × List ℕ
told_by first count rows None = (0, agrees_text count rows)
told_by first count rows (Some place) = (3, differs_text (first + place))

-- what is told of events of which the first stands on the line of this number
abbrev pub told : {S : Type 0} → (next : S → Event → S) → (answer : S → Event → Answer) → (look : S → ℕ → LineLook) → S → (lines first : ℕ)
    → List Entry → ℕ × List ℕ
told next answer look s lines first entries =
    told_by first (length entries) (rows_of (look (run_to next s entries)) lines) (differs_from next answer 0 s entries)

-- the machines as they are opened

abbrev pub opened_server : ServerConfig → servers.Machine
opened_server c = record { config = server.config_shown c; state = open_server (server.config_shown c) }

-- neither the answers of a node nor its sessions depend on its rule of rating
abbrev pub opened_node : {H : Type 0} → H → NodeConfig → nodes.Machine H
opened_node rule c = record { config = node.config_shown c; rule = rule; state = open_node (node.config_shown c) }

-- what the rerun of a record comes to
abbrev pub rerun_by : Opening → (first : ℕ) → List Entry → ℕ × List ℕ
rerun_by (Server c) first entries = told servers.next servers.answered server_looks.look_of (opened_server c) c.lines first entries
rerun_by (Switch c) first entries = told switches.next switches.answered switch_looks.look_of (open_switch c) c.lines first entries
rerun_by (Node o) first entries = told nodes.next nodes.answered node_looks.look_of (opened_node (tt {0}) o.config) o.config.lines first entries

-- where a text is no record the number of the first line that is wrong or missing
abbrev pub rerun_read : Result Record ℕ → ℕ × List ℕ
rerun_read (Ok r) = rerun_by r.opening r.first r.entries
rerun_read (Err number) = (2, wrong_line number)

-- what the rerun of a text comes to: its status, and what is printed
unfoldable pub rerun_of : List ℕ → ℕ × List ℕ
rerun_of text = rerun_read (record_of text)
