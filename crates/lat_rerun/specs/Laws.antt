-- The record of a history agrees with it.
use Rattle.std.specs.Prelude.{◌≡◌, ◌≢◌, ℕ, List, ◌++◌, length}
use Rattle.lat_history.specs.History.{IsLegal, run_of}
use Rattle.lat_model.specs.Lists.{Each}
use Rattle.lat_node.specs.Looks as node_looks
use Rattle.lat_node.specs.Stands as nodes
use Rattle.lat_past.specs.declared.past.Past.{Past}
use Rattle.lat_record.specs.declared.opening.NodeOpening.{NodeOpening}
use Rattle.lat_record.specs.declared.opening.Opening.TheVariants.{Server, Switch, Node}
use Rattle.lat_record.specs.Openings.{IsServer, IsSwitch, IsNode}
use Rattle.lat_record.specs.RecordText.{record_text}
use Rattle.lat_record.specs.Values.{IsPast}
use Rattle.lat_server.specs.declared.config.ServerConfig.{ServerConfig}
use Rattle.lat_server.specs.Looks as server_looks
use Rattle.lat_server.specs.Stands as servers
use Rattle.lat_switch.specs.Config.{open_switch}
use Rattle.lat_switch.specs.Core as switches
use Rattle.lat_switch.specs.Looks as switch_looks
use Rattle.lat_switch.specs.declared.config.SwitchConfig.{SwitchConfig}
use Rattle.lat_text.specs.Lines.{line_feed}
use Rattle.lat_rerun.specs.Reruns.{opened_server, opened_node, rerun_of}
use Rattle.lat_rerun.specs.RowText.{agrees_text, rows_of}

-- what may stand behind a record: some of a line that was cut
abbrev pub IsCut : List ℕ → Type 0
IsCut cut = Each (λ b. b ≢ line_feed) cut

-- Each history of a server, from its opening on and with its machine's answers: its record agrees with it, and shows the sessions of
-- the state behind it
abbrev pub ServerAgrees : Type 0
ServerAgrees =
    (c : ServerConfig) (history : List Past) (cut : List ℕ) → IsServer c → Each IsPast history → IsCut cut →
    IsLegal servers.next servers.answered (opened_server c) history →
    rerun_of (record_text (Server c) history ++ cut)
    ≡ (0, agrees_text (length history) (rows_of (server_looks.look_of (run_of servers.next (opened_server c) history)) c.lines))

abbrev pub SwitchAgrees : Type 0
SwitchAgrees =
    (c : SwitchConfig) (history : List Past) (cut : List ℕ) → IsSwitch c → Each IsPast history → IsCut cut →
    IsLegal switches.next switches.answered (open_switch c) history →
    rerun_of (record_text (Switch c) history ++ cut)
    ≡ (0, agrees_text (length history) (rows_of (switch_looks.look_of (run_of switches.next (open_switch c) history)) c.lines))

-- of a node whatever its rule of rating
abbrev pub NodeAgrees : Type 0 → Type 0
NodeAgrees H =
    (rule : H) (o : NodeOpening) (history : List Past) (cut : List ℕ) → IsNode o → Each IsPast history → IsCut cut →
    IsLegal nodes.next nodes.answered (opened_node rule o.config) history →
    rerun_of (record_text (Node o) history ++ cut)
    ≡ (0, agrees_text (length history) (rows_of (node_looks.look_of (run_of nodes.next (opened_node rule o.config) history)) o.config.lines))
