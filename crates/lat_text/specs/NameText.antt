-- Names in print.
use Rattle.std.specs.Prelude.{ℕ, Bool, not, ◌&&◌, nat_le, ◌==◌, List, [], ◌∷◌, ◌++◌, codes, if◌then◌else◌}
use Rattle.std.specs.List.{flat_map}
use Rattle.lat_text.specs.HexText.{byte_text}

-- the bytes that stand for themselves: the visible characters of ASCII but `%`
abbrev pub is_plain : ℕ → Bool
is_plain byte = nat_le 0x21 byte && nat_le byte 0x7e && not (byte == 0x25)

-- every other byte is `%` with its two lower-case hex digits
abbrev pub name_byte_text : ℕ → List ℕ
name_byte_text byte = if is_plain byte then byte ∷ [] else codes "%" ++ byte_text byte

abbrev pub name_text : List ℕ → List ℕ
name_text name = flat_map name_byte_text name
