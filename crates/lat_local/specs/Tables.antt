-- The tables of services and sessions.
use Rattle.std.specs.Prelude.{ℕ, ◌-◌, List, [], ◌∷◌, ◌++◌, codes, decimal, length, fold, replicate, nat_le, if◌then◌else◌}
use Rattle.std.specs.List.{flat_map}
use Rattle.lat_base.specs.declared.state.SessionState.{SessionState}
use Rattle.lat_base.specs.declared.state.SessionState.TheVariants as states
use Rattle.lat_text.specs.NameText.{name_text}
use Rattle.lat_local.specs.declared.tables.ServiceRow.{ServiceRow}
use Rattle.lat_local.specs.declared.tables.SessionRow.{SessionRow}

-- a cell with blanks behind it, up to the width of its column
abbrev pub padded : ℕ → List ℕ → List ℕ
padded width cell = cell ++ replicate (width - length cell) 32

-- a column that has been as wide, with this name in it too
abbrev pub wider : ℕ → List ℕ → ℕ
wider width name = if nat_le width (length (name_text name)) then length (name_text name) else width

abbrev pub service_wider : ℕ → ServiceRow → ℕ
service_wider width row = wider width row.service

abbrev pub session_wider : ℕ → SessionRow → ℕ
session_wider width row = wider width row.service

abbrev pub node_wider : ℕ → SessionRow → ℕ
node_wider width row = wider width row.node

abbrev pub service_row : ℕ → ServiceRow → List ℕ
service_row width row =
    padded width (name_text row.service) ++ (codes "  " ++ (padded 6 (decimal row.rating) ++ (codes "  " ++ (name_text row.node ++ codes "\r\n"))))

abbrev pub services_header : ℕ → List ℕ
services_header width = padded width (codes "service") ++ (codes "  rating" ++ codes "  node\r\n")

abbrev pub services_below : ℕ → List ServiceRow → List ℕ
services_below width rows = services_header width ++ flat_map (service_row width) rows

abbrev pub services_text : List ServiceRow → List ℕ
services_text rows = services_below (fold service_wider 7 rows) rows

abbrev pub state_word : SessionState → List ℕ
state_word states.Free = codes "free"
state_word states.Calling = codes "calling"
state_word states.Asked = codes "asked"
state_word states.Live = codes "live"
state_word states.Closing = codes "closing"
state_word states.Left = codes "left"

abbrev pub session_front : ℕ → SessionRow → List ℕ
session_front width row = padded 7 (decimal row.number) ++ (codes "  " ++ (padded width (name_text row.service) ++ codes "  "))

abbrev pub session_back : ℕ → SessionRow → List ℕ
session_back nodes row = padded nodes (name_text row.node) ++ (codes "  " ++ (state_word row.state ++ codes "\r\n"))

abbrev pub session_row : ℕ → ℕ → SessionRow → List ℕ
session_row width nodes row = session_front width row ++ session_back nodes row

abbrev pub sessions_header : ℕ → ℕ → List ℕ
sessions_header width nodes = codes "session  " ++ (padded width (codes "service") ++ (codes "  " ++ (padded nodes (codes "node") ++ codes "  state\r\n")))

abbrev pub sessions_below : ℕ → ℕ → List SessionRow → List ℕ
sessions_below width nodes rows = sessions_header width nodes ++ flat_map (session_row width nodes) rows

abbrev pub sessions_text : List SessionRow → List ℕ
sessions_text rows = sessions_below (fold session_wider 7 rows) (fold node_wider 4 rows) rows
