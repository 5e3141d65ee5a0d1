-- The cells of tables.
use Rattle.std.specs.Prelude.{ℕ, List, ◌++◌, codes, decimal}
use Rattle.lat_base.specs.declared.state.SessionEnd.{SessionEnd}
use Rattle.lat_base.specs.declared.state.SessionEnd.TheVariants as ends
use Rattle.lat_base.specs.declared.state.SessionState.{SessionState}
use Rattle.lat_base.specs.declared.state.SessionState.TheVariants as states
use Rattle.lat_text.specs.AddressText.{address_text}
use Rattle.lat_text.specs.NameText.{name_text}
use Rattle.lat_tables.specs.Columns.{title_text}
use Rattle.lat_tables.specs.CounterNames.{counter_text}
use Rattle.lat_tables.specs.declared.cell.Cell.{Cell}
use Rattle.lat_tables.specs.declared.cell.Cell.TheVariants as cells

abbrev pub state_text : SessionState → List ℕ
state_text states.Free = codes "free"
state_text states.Calling = codes "calling"
state_text states.Asked = codes "asked"
state_text states.Live = codes "live"
state_text states.Closing = codes "closing"
state_text states.Left = codes "left"

-- how a session ended, with the reason of its reject or of its circuit's end
abbrev pub ended_text : SessionEnd → List ℕ
ended_text ends.Closed = codes "closed"
ended_text (ends.Rejected reason) = codes "rejected " ++ decimal reason
ended_text (ends.Circuit reason) = codes "circuit " ++ decimal reason

-- what stands in a cell
abbrev pub cell_text : Cell → List ℕ
cell_text (cells.Title column) = title_text column
cell_text cells.Absent = codes "-"
cell_text (cells.Number n) = decimal n
cell_text (cells.Name name) = name_text name
cell_text (cells.Address address) = address_text address
cell_text (cells.State state) = state_text state
cell_text (cells.Ended end) = ended_text end
cell_text (cells.Counter counter) = counter_text counter
