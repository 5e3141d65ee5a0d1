-- The pattern of bytes that rounds put and look for.
use Rattle.std.specs.Prelude.{ℕ, Bool, false, ◌%◌, ◌==◌}
use Rattle.lat_base.specs.declared.item.Item.{Item}
use Rattle.lat_base.specs.declared.item.Item.TheVariants.{Byte, Set}

-- the byte of this number
abbrev pub byte_of : ℕ → ℕ
byte_of number = number % 251

-- whether the item is the byte of this number
abbrev pub is_byte_of : ℕ → Item → Bool
is_byte_of number (Byte byte) = byte == byte_of number
is_byte_of number (Set setting) = false
