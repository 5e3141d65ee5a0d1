-- Items in print.
use Rattle.std.specs.Prelude.{ℕ, List, [], ◌∷◌, ◌++◌, codes}
use Rattle.std.specs.List.{flat_map}
use Rattle.lat_base.specs.declared.item.Item.{Item}
use Rattle.lat_base.specs.declared.item.Item.TheVariants.{Byte, Set}
use Rattle.lat_text.specs.HexText.{byte_text, hex_text}

-- two hex digits for a byte; a setting has ten, in round brackets
abbrev pub item_text : Item → List ℕ
item_text (Byte byte) = byte_text byte
item_text (Set setting) = codes "(" ++ (hex_text setting ++ codes ")")

-- the items one after another, `-` for none
abbrev pub items_text : List Item → List ℕ
items_text [] = codes "-"
items_text (item ∷ items) = flat_map item_text (item ∷ items)
