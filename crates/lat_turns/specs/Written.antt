-- What is written to a caller.
use Rattle.std.specs.Prelude.{◌≡◌, ℕ, ◌+◌, ◌-◌, ◌==◌, List, [], ◌∷◌, ◌++◌, flat_map, length, take, if◌then◌else◌, Result, Ok, Err}
use Rattle.lat_base.specs.declared.item.Item.{Item}
use Rattle.lat_base.specs.declared.item.Item.TheVariants as items
use Rattle.lat_outside.specs.Visits.{VisitView, failed}

-- a setting isn't written
abbrev pub item_bytes : Item → List ℕ
item_bytes (items.Byte byte) = byte ∷ []
item_bytes (items.Set setting) = []

abbrev pub items_bytes : List Item → List ℕ
items_bytes items = flat_map item_bytes items

-- how many items stand at the front up to the byte behind so many bytes
abbrev pub front_of : ℕ → List Item → ℕ
front_of k [] = 0
front_of k (items.Set setting ∷ rest) = front_of k rest + 1
front_of k (items.Byte byte ∷ rest) = if k == 0 then 0 else front_of (k - 1) rest + 1

-- so many items at the front, and no further one could be added without a byte
abbrev pub IsWhole : ℕ → List Item → Type 0
IsWhole n items = n ≡ front_of (length (items_bytes (take n items))) items

-- behind a write of the first of these items: so many of them, or it failed
abbrev pub wrote_by : {E : Type 0} → Result ℕ E → List Item → VisitView → VisitView
wrote_by (Ok n) items v = record v { written = v.written ++ items_bytes (take n items) }
wrote_by (Err e) items v = failed v
