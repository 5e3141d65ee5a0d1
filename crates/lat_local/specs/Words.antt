-- The words of a typed line.
use Rattle.std.specs.Prelude.{ℕ, ◌==◌, Bool, false, not, List, [], length, take, drop, Option, Some, None, position, nat_le, if◌then◌else◌}
use Rattle.std.specs.Str.{str_eq_ignore_ascii_case}

abbrev pub blank : ℕ
blank = 32

abbrev pub behind : Option ℕ → List ℕ → List ℕ
behind None text = []
behind (Some at) text = drop at text

-- a text from its first byte on that is no blank
abbrev pub without_blanks : List ℕ → List ℕ
without_blanks text = behind (position (λ b. not (b == blank)) text) text

abbrev pub split_before : Option ℕ → List ℕ → List ℕ × List ℕ
split_before None text = (text, [])
split_before (Some at) text = (take at text, drop at text)

-- a text up to its first blank, and the rest
abbrev pub split_word : List ℕ → List ℕ × List ℕ
split_word text = split_before (position (λ b. b == blank) text) text

-- the first word of a text, and what stands behind it
abbrev pub next_word : List ℕ → List ℕ × List ℕ
next_word text = split_word (without_blanks text)

-- the whole word begins with this one, without regard to case
abbrev pub begins : List ℕ → List ℕ → Bool
begins word whole = if nat_le (length word) (length whole) then str_eq_ignore_ascii_case word (take (length word) whole) else false
