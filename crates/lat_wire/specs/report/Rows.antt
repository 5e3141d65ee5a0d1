-- Rows, as the machines know them.
use Rattle.std.specs.Prelude.{List, map, option_map}
use Rattle.lat_base.specs.declared.item.Item as base_item
use Rattle.lat_model.specs.sessions.Slots.{Item}
use Rattle.lat_machines.specs.world.Reports.{Direction, Row, RecordRow}
use Rattle.lat_stream.specs.Kept.{item_shown}
use Rattle.lat_lines.specs.Stands.{end_shown}
use Rattle.lat_queue.specs.Histories.{key_shown}
use Rattle.lat_queue.specs.KeptValues.{kept_shown}
use Rattle.lat_queue.specs.declared.record.Record.{Record}
use Rattle.lat_wire.specs.declared.report.rows.Flow.{Flow}
use Rattle.lat_wire.specs.declared.report.rows.SessionRow.{SessionRow}

abbrev pub items_in : List base_item.Item → List Item
items_in items = map item_shown items

abbrev pub direction_in : Flow → Direction
direction_in f = record { put = items_in f.put.now; taken = items_in f.taken.now; given = f.given; used_up = f.used }

abbrev pub row_in : SessionRow → Row
row_in r = record {
  line = r.line;
  node_line = r.node_line;
  ended = option_map end_shown r.ended;
  up = direction_in r.up;
  down = direction_in r.down;
}

abbrev pub record_shown : Record → RecordRow
record_shown r = record { key = key_shown r.key; service = r.service; kept = kept_shown r.kept }
