-- Items come back from the machines as they were, and the machines' items from those of a ring.
use Rattle.std.proofs.Common.{◌≡◌, List, [], ◌∷◌, map, refl, ap}
use Rattle.lat_base.specs.declared.item.Item as base_item
use Rattle.lat_base.specs.declared.item.Item.TheVariants as kept_items
use Rattle.lat_model.specs.sessions.Slots.{Item, Byte, Setting}
use Rattle.lat_stream.specs.Kept.{item_shown, item_of}

pub items_back : (xs : List base_item.Item) → map item_of (map item_shown xs) ≡ xs
items_back [] = refl
items_back (kept_items.Byte b ∷ xs) = ap (λ z. kept_items.Byte b ∷ z) (items_back xs)
items_back (kept_items.Set t ∷ xs) = ap (λ z. kept_items.Set t ∷ z) (items_back xs)

pub items_of_back : (xs : List Item) → map item_shown (map item_of xs) ≡ xs
items_of_back [] = refl
items_of_back (Byte b ∷ xs) = ap (λ z. Byte b ∷ z) (items_of_back xs)
items_of_back (Setting t ∷ xs) = ap (λ z. Setting t ∷ z) (items_of_back xs)
