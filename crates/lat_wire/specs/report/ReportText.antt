-- The text of a report.
use Rattle.std.specs.Prelude.{ℕ, ◌+◌, List, [], ◌∷◌, ◌++◌, Option, Some, None, codes, decimal}
use Rattle.std.specs.List.{flat_map}
use Rattle.lat_model.specs.sessions.Slots.{Item, Byte, Setting}
use Rattle.lat_machines.specs.values.Keys.{Key}
use Rattle.lat_machines.specs.values.Notices.{Kept, Waiting, Granted, Cancelled, QueueFull, NoService, RecordsFull, Done}
use Rattle.lat_machines.specs.cores.Books.{SessionEnd, EndedClosed, EndedRejected, EndedCircuit}
use Rattle.lat_machines.specs.world.Machines.{NotedEvent}
use Rattle.lat_machines.specs.world.Reports.{Direction, Row, RecordRow, Report}
use Rattle.lat_text.specs.HexText.{byte_text, hex_text}
use Rattle.lat_text.specs.Line.{line}
use Rattle.lat_text.specs.NameText.{name_text}
use Rattle.lat_wire.specs.report.NoteText.{note_text}

-- two hex digits for a byte; a setting has ten, in round brackets
abbrev pub item_text : Item → List ℕ
item_text (Byte b) = byte_text b
item_text (Setting setting) = codes "(" ++ hex_text setting ++ codes ")"

-- the items one after another, `-` for none
abbrev pub items_text : List Item → List ℕ
items_text [] = codes "-"
items_text (item ∷ items) = flat_map item_text (item ∷ items)

-- what went in one direction of a session: the items put and taken, the credits given and the credited slots formed
abbrev pub direction_text : (word : List ℕ) → Direction → List ℕ
direction_text word d = line (
    word ∷ codes " put " ∷ items_text d.put ∷ codes " taken " ∷ items_text d.taken
    ∷ codes " given " ∷ decimal d.given ∷ codes " used " ∷ decimal d.used_up ∷ []
    )

-- the words on how a session ended
unfoldable pub end_text : Option SessionEnd → List ℕ
end_text None = codes " end open"
end_text (Some EndedClosed) = codes " end closed"
end_text (Some (EndedRejected reason)) = codes " end rejected " ++ decimal reason
end_text (Some (EndedCircuit reason)) = codes " end circuit " ++ decimal reason

-- the words on the node's line, `-` for none
unfoldable pub node_line_text : Option ℕ → List ℕ
node_line_text None = codes " node-line -"
node_line_text (Some node_line) = codes " node-line " ++ decimal node_line

-- the number of a session and the server's line
unfoldable pub session_head : (number server_line : ℕ) → List ℕ
session_head number server_line = codes "session " ++ decimal number ++ codes " server-line " ++ decimal server_line

abbrev pub session_line : (number server_line : ℕ) → (node_line : Option ℕ) → (ended : Option SessionEnd) → List ℕ
session_line number server_line node_line ended =
    line (session_head number server_line ∷ node_line_text node_line ∷ end_text ended ∷ [])

-- the three lines of the session of this number
abbrev pub row_text : (number : ℕ) → Row → List ℕ
row_text number r = session_line number r.line r.node_line r.ended ++ direction_text (codes "up") r.up ++ direction_text (codes "down") r.down

-- those of all sessions, of which the first has this number
abbrev pub rows_text : (number : ℕ) → List Row → List ℕ
rows_text number [] = []
rows_text number (r ∷ rows) = row_text number r ++ rows_text (number + 1) rows

unfoldable pub key_text : Key → List ℕ
key_text k = name_text k.node ++ codes " " ++ decimal k.incarnation ++ codes " " ++ decimal k.request

-- what became of a request
unfoldable pub kept_word : Kept → List ℕ
kept_word (Waiting place) = codes "waiting"
kept_word Granted = codes "granted"
kept_word Cancelled = codes "cancelled"
kept_word QueueFull = codes "queue-full"
kept_word NoService = codes "no-service"
kept_word RecordsFull = codes "records-full"
kept_word Done = codes "done"

abbrev pub request_text : RecordRow → List ℕ
request_text r = line (codes "request " ∷ key_text r.key ∷ codes " " ∷ name_text r.service ∷ codes " " ∷ kept_word r.kept ∷ [])

abbrev pub grant_text : Key → List ℕ
grant_text k = line (codes "grant " ∷ key_text k ∷ [])

abbrev pub event_text : NotedEvent → List ℕ
event_text n = line (codes "event " ∷ decimal n.event ∷ codes " " ∷ note_text n.answer ∷ [])

abbrev pub frames_text : ℕ → List ℕ
frames_text frames = line (codes "frames " ∷ decimal frames ∷ [])

-- the whole of a report
abbrev pub report_text : Report → List ℕ
report_text r =
    frames_text r.frames
    ++ rows_text 1 r.sessions
    ++ flat_map request_text r.requests
    ++ flat_map grant_text r.granted
    ++ flat_map event_text r.noted
    ++ line (codes "done" ∷ [])
