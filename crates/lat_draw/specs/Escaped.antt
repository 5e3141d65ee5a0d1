-- Words in a picture.
use Rattle.std.specs.Prelude.{ℕ, ◌&&◌, List, [], ◌∷◌, ◌++◌, length, take, codes, nat_le, ◌==◌, if◌then◌else◌}
use Rattle.std.specs.List.{flat_map}

-- A character of a text of a picture. `<`, `>` and `&` have names; what isn't visible is a dot
abbrev pub escaped_byte : ℕ → List ℕ
escaped_byte b =
    if b == 0x3c then codes "&lt;"
    else if b == 0x3e then codes "&gt;"
    else if b == 0x26 then codes "&amp;"
    else if nat_le 0x20 b && nat_le b 0x7e then b ∷ []
    else codes "."

abbrev pub escaped : List ℕ → List ℕ
escaped words = flat_map escaped_byte words

-- words that are longer than this are cut, and two dots stand for what is left out
unfoldable pub cut : (most : ℕ) → List ℕ → List ℕ
cut most words = if nat_le (length words) most then escaped words else escaped (take most words) ++ codes ".."
