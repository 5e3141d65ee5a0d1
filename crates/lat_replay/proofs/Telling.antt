-- The session that is told of a row.
use Rattle.std.proofs.Common.{◌≡◌, ℕ, ap, ap₂, ◌∙◌, List, ◌++◌, map, Option}
use Rattle.lat_base.specs.declared.item.Item as base
use Rattle.lat_model.specs.sessions.Slots.{Item}
use Rattle.lat_machines.specs.world.Machines.{Machines}
use Rattle.lat_machines.specs.world.Reports as reports
use Rattle.lat_laws.specs.tales.Rows.{Figures, RowAfter, RowsAfter}
use Rattle.lat_laws.specs.tales.Reported.{server_figures, node_figures, report_row}
use Rattle.lat_stream.specs.Kept.{item_of}
use Rattle.lat_wire.specs.report.ReportText.{row_text}
use Rattle.lat_wire.specs.report.Rows.{items_in}
use Rattle.lat_replay.specs.Rows.{row_with}
use Rattle.lat_replay.specs.roster.Rows.{some_line}
use Rattle.lat_replay.proofs.Texts.{items_are}

module _ (r : RowAfter) (server node : Figures) where
  abbrev pub whole : ℕ → Option ℕ → List Item → List Item → List Item → List Item → reports.Row
  whole line o put_up taken_up put_down taken_down = record {
    line = line;
    node_line = o;
    ended = server.end;
    up = record { put = put_up; taken = taken_up; given = node.given; used_up = server.used_up };
    down = record { put = put_down; taken = taken_down; given = server.given; used_up = node.used_up };
  }

  pub told_is : (line : ℕ) (o : Option ℕ) (put_up taken_up put_down taken_down : List base.Item) → line ≡ r.line → o ≡ some_line r.node_line → put_up ≡ map item_of r.put_up → taken_up ≡ map item_of r.taken_up → put_down ≡ map item_of r.put_down → taken_down ≡ map item_of r.taken_down → whole line o (items_in put_up) (items_in taken_up) (items_in put_down) (items_in taken_down) ≡ row_with r server node
  told_is line o pu tu pd td l n a b c d =
      ap₂ (λ x y. whole x y (items_in pu) (items_in tu) (items_in pd) (items_in td)) l n
      ∙ (ap₂ (λ x y. whole r.line (some_line r.node_line) x y (items_in pd) (items_in td)) (items_are pu r.put_up a) (items_are tu r.taken_up b)
      ∙ ap₂ (λ x y. whole r.line (some_line r.node_line) r.put_up r.taken_up x y) (items_are pd r.put_down c) (items_are td r.taken_down d))

-- its text, with the figures that are told
pub row_is : (w : Machines) (k : RowsAfter) (place : ℕ) (r : RowAfter) (told : reports.Row) (server node : Figures) (old new : List ℕ) → new ≡ old ++ row_text place told → told ≡ row_with r server node → server ≡ server_figures w k place r → node ≡ node_figures w k place r → new ≡ old ++ row_text place (report_row w k place r)
row_is w k place r told server node old new t e s n = t ∙ ap (λ z. old ++ row_text place z) (e ∙ ap₂ (row_with r) s n)
