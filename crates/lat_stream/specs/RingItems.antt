-- The items of a ring that keeps its settings beside its bytes.
use Rattle.std.specs.Prelude.{ℕ, suc, ◌+◌, ◌-◌, cond, List, [], ◌∷◌, ◌++◌, length, take, drop, nat_lt, nat_le}
use Rattle.lat_base.specs.declared.item.Item.{Item}
use Rattle.lat_base.specs.declared.item.Item.TheVariants.{Byte, Set}
use Rattle.lat_stream.specs.declared.ring.Placed.{Placed}

-- the items of a ring, how many there may be, and how many of them may be settings
pub record RingItems : Type 0 where
  pub items : List Item
  pub capacity : ℕ
  pub settings : ℕ

-- the items, with each setting put in its place, as far as they reach
abbrev pub with_settings : List Placed → List Item → List Item
with_settings [] xs = xs
with_settings (p ∷ ps) xs = cond (nat_lt p.gap (length xs)) (take p.gap xs ++ Set p.setting ∷ with_settings ps (drop (suc p.gap) xs)) xs

-- how many items stand up to the last setting
abbrev pub span : List Placed → ℕ
span [] = 0
span (p ∷ ps) = suc (p.gap + span ps)

-- those behind the first n items
abbrev pub behind : ℕ → List Placed → List Placed
behind n [] = []
behind n (p ∷ ps) = cond (nat_le n p.gap) (record { gap = p.gap - n; setting = p.setting } ∷ ps) (behind (n - suc p.gap) ps)

abbrev pub settings_in : List Item → ℕ
settings_in [] = 0
settings_in (Byte b ∷ xs) = settings_in xs
settings_in (Set t ∷ xs) = suc (settings_in xs)
