use Rattle.std.proofs.Common.{◌≡◌, ◌++◌, string_bytes, take}
use Rattle.std.specs.List.{flat_map}
use Rattle.lat_stream.specs.Kept.{item_shown}
use Rattle.lat_wire.specs.report.ReportText.{item_text}
use Rattle.lat_wire.proofs.report.rows.each_onto.Given as goal

abbrev pub invariant-loop-item : goal.invariant-loop-item
invariant-loop-item l = string_bytes l.text ≡ string_bytes l.initial.text ++ flat_map (λ i. item_text (item_shown i)) (take l.item-index l.items)
