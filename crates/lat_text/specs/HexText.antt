-- Bytes in print.
use Rattle.std.specs.Prelude.{ℕ, List, [], ◌∷◌, codes}
use Rattle.hex.specs.Hex.{encode_lower}

-- two lower-case hex digits
unfoldable pub byte_text : ℕ → List ℕ
byte_text byte = encode_lower (byte ∷ [])

-- two lower-case hex digits for each byte, `-` for no byte
abbrev pub hex_text : List ℕ → List ℕ
hex_text [] = codes "-"
hex_text (b ∷ bytes) = encode_lower (b ∷ bytes)
