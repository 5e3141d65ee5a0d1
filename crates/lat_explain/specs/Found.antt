-- What was found where a line goes no further.
use Rattle.std.specs.Prelude.{ℕ, ◌+◌, ◌-◌, Bool, ◌&&◌, List, [], ◌∷◌, ◌++◌, length, take, drop, get_or, nat_le, nat_lt, nat_eq, codes, ◌==◌, if◌then◌else◌}
use Rattle.std.specs.List.{flat_map}
use Rattle.lat_text.specs.HexText.{byte_text}
use Rattle.lat_explain.specs.Walks.{front_word}

-- a visible byte of ASCII or a space is itself, each other byte is `%` with its two hex digits
abbrev pub byte_shown : ℕ → List ℕ
byte_shown b = if nat_le 0x20 b && nat_le b 0x7e then b ∷ [] else codes "%" ++ byte_text b

abbrev pub shown : List ℕ → List ℕ
shown word = flat_map byte_shown word

-- in quotes; of a word of more than 40 bytes 40 at most, from where it is wrong on
abbrev pub cut_mark : List ℕ → List ℕ
cut_mark word = if nat_lt 40 (length word) then codes ".." else []

abbrev pub quoted : List ℕ → List ℕ
quoted word = codes "\"" ++ (shown (take 40 word) ++ (cut_mark word ++ codes "\""))

abbrev pub word_found : (word : List ℕ) → (good : ℕ) → List ℕ
word_found word good = if nat_le (length word) 40 then quoted word else quoted (drop good word)

-- where the word begins in which this place stands; `start` where the word in front of this place began
unfoldable pub word_start : List ℕ → (place start at : ℕ) → ℕ
word_start [] place start at = start
word_start (b ∷ line) place start at =
    if nat_eq place at then start else word_start line (place + 1) (if b == 32 then place + 1 else start) at

abbrev pub start_of : (line : List ℕ) → (at : ℕ) → ℕ
start_of line at = word_start line 0 0 at

abbrev pub end_found : (ended : Bool) → List ℕ
end_found ended = if ended then codes "the end of the line" else codes "the end of the text"

-- at this place of a line, which a line feed ends or not
abbrev pub found_within : (line : List ℕ) → (at : ℕ) → List ℕ
found_within line at =
    if get_or line at 0 == 32 then codes "a space" else word_found (front_word (drop (start_of line at) line)) (at - start_of line at)

abbrev pub found : (ended : Bool) → (line : List ℕ) → (at : ℕ) → List ℕ
found ended line at = if nat_lt at (length line) then found_within line at else end_found ended
