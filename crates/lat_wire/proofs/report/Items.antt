-- The texts of items.
use Rattle.std.proofs.Common.{◌≡◌, false, List, [], ◌∷◌, ◌++◌, length, map, refl, ap}
use Rattle.std.specs.Prelude.{◌==◌}
use Rattle.std.specs.List.{flat_map}
use Rattle.std.proofs.lemmas.Bool.{true≢false}
use Rattle.lat_base.specs.declared.item.Item.{Item}
use Rattle.lat_stream.specs.Kept.{item_shown}
use Rattle.lat_wire.specs.report.ReportText.{item_text, items_text}
use Rattle.lat_wire.specs.report.Rows.{items_in}

each_item : (xs : List Item) → flat_map item_text (map item_shown xs) ≡ flat_map (λ i. item_text (item_shown i)) xs
each_item [] = refl
each_item (x ∷ xs) = ap (λ t. item_text (item_shown x) ++ t) (each_item xs)

-- those of some items, one after another
pub some_items : (xs : List Item) → (length xs == 0) ≡ false → items_text (items_in xs) ≡ flat_map (λ i. item_text (item_shown i)) xs
some_items [] some = absurd (true≢false some)
some_items (x ∷ xs) some = each_item (x ∷ xs)
