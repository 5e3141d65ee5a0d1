-- Numbers in decimal.
use Rattle.std.specs.Prelude.{ℕ, ◌^◌, Bool, false, not, ◌&&◌, ◌||◌, List, [], ◌∷◌, length, Option, Some, None, option_and_then, nat_le, nat_lt, bytes_eq, ◌==◌, decimal, if◌then◌else◌}
use Rattle.std.specs.Str.Parse.{digits_value}

-- the number, if the text is its decimal text and it is below 2^64
abbrev pub if_decimal : List ℕ → ℕ → Option ℕ
if_decimal text n = if nat_lt n (2 ^ 64) && bytes_eq text (decimal n) then Some n else None

-- the number that a text is the decimal text of, without a sign or a needless 0
abbrev pub number_of : List ℕ → Option ℕ
number_of text = if_decimal text (digits_value 10 text)

abbrev pub if_within : ℕ → ℕ → ℕ → Option ℕ
if_within least most n = if nat_le least n && nat_le n most then Some n else None

-- a number of so much at least and so much at most
abbrev pub number_within : ℕ → ℕ → List ℕ → Option ℕ
number_within least most text = option_and_then (if_within least most) (number_of text)

abbrev pub if_moment : ℕ → Option ℕ
if_moment n = if nat_lt n (10 ^ 15) then Some n else None

-- a plus sign or a needless 0 stands in front, which no decimal text has
abbrev pub is_padded : List ℕ → Bool
is_padded [] = false
is_padded (first ∷ rest) = first == 43 || (first == 48 && not (length rest == 0))

-- a moment: a number below 10^15
abbrev pub moment_of : List ℕ → Option ℕ
moment_of text = option_and_then if_moment (number_of text)
