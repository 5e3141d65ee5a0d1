-- The texts of names as options have them, which may have escapes for every byte.
use Rattle.std.specs.Prelude.{ℕ, zero, suc, List, [], ◌∷◌, Option, Some, None, option_map, option_and_then, ◌==◌, if◌then◌else◌}
use Rattle.std.specs.Result.{result_ok}
use Rattle.lat_base.specs.Names.{name_read}
use Rattle.lat_text.specs.NameText.{is_plain}
use Rattle.lat_text.specs.NameWritten.{percent}
use Rattle.lat_text.specs.Digits.{byte_of}

-- the byte whose two hex digits a text begins with, and the text behind them
abbrev pub escaped : List ℕ → Option (ℕ × List ℕ)
escaped (high ∷ low ∷ text) = option_map (λ b. (b, text)) (byte_of high low)
escaped text = None

-- The byte of a name that a text begins with, and the text behind it: a visible character of ASCII but `%` stands for itself,
-- and each byte may be `%` and its two hex digits
abbrev pub first_byte : List ℕ → Option (ℕ × List ℕ)
first_byte [] = None
first_byte (b ∷ text) = if is_plain b then Some (b, text) else if b == percent then escaped text else None

-- the bytes that a text writes, so many at most
abbrev pub bytes_written : ℕ → List ℕ → Option (List ℕ)
bytes_written most [] = Some []
bytes_written zero (b ∷ text) = None
bytes_written (suc most) (b ∷ text) = option_and_then (λ first. option_map (λ bytes. first.0 ∷ bytes) (bytes_written most first.1)) (first_byte (b ∷ text))

-- the name that a text writes; a name has 16 bytes at most
abbrev pub named : List ℕ → Option (List ℕ)
named text = option_and_then (λ bytes. result_ok (name_read bytes)) (bytes_written 16 text)
