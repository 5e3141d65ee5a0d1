-- The parts of a value of several parts, between which signs stand.
use Rattle.std.specs.Prelude.{ℕ, zero, suc, ◌+◌, ◌&&◌, Bool, List, length, take, drop, Option, Some, None, option_map, option_and_then, bytes_eq, codes, nat_le, not, slice_index, ◌==◌, if◌then◌else◌}
use Rattle.std.specs.List.{list_all}
use Rattle.clap.specs.Words.{Text}
use Rattle.lat_text.specs.Numbers.{number_within}
use Rattle.lat_words.specs.Groups.{sign_at}
use Rattle.lat_words.specs.NameTexts.{named}
use Rattle.lat_words.specs.Values.{port_of}
use Rattle.lat_words.specs.declared.settings.Service.{Service}
use Rattle.lat_words.specs.declared.settings.Offer.{Offer}
use Rattle.lat_words.specs.declared.settings.Rate.{Rate}
use Rattle.lat_words.specs.declared.settings.Rate.TheVariants as rates

-- what stands behind is read where this is right
infixl 10 ◌>>=◌
abbrev pub ◌>>=◌ : {A B : Type 0} → Option A → (A → Option B) → Option B
found >>= f = option_and_then f found

abbrev pub equals : ℕ
equals = 0x3d

-- the last place of a byte, below a place
abbrev pub last_below : ℕ → ℕ → Text → Option ℕ
last_below sign zero text = None
last_below sign (suc at) text = if slice_index text at == sign then Some at else last_below sign at text

abbrev pub last_equals : Text → Option ℕ
last_equals text = last_below equals (length text) text

abbrev pub is_digit : ℕ → Bool
is_digit b = nat_le 0x30 b && nat_le b 0x39

-- digits alone, and one at least
abbrev pub is_digits : Text → Bool
is_digits text = not (length text == 0) && list_all is_digit text

abbrev pub if_digits : Text → ℕ → Option ℕ
if_digits text sign = if is_digits (drop (sign + 1) text) then Some sign else None

-- the last sign, where digits alone stand behind it
abbrev pub port_sign : Text → Option ℕ
port_sign text = last_equals text >>= if_digits text

abbrev pub service_at : Option ℕ → Text → Option Service
service_at None text = option_map (λ name. record { name = name; port = None }) (named text)
service_at (Some sign) text = do
  name ← named (take sign text)
  port ← port_of (drop (sign + 1) text)
  Some (record { name = name; port = Some port })

-- NAME or NAME=PORT
abbrev pub service_of : Text → Option Service
service_of text = service_at (port_sign text) text

abbrev pub rule_by : Text → ℕ → Option Rate
rule_by word n =
    if bytes_eq word (codes "each") then Some (rates.Each n)
    else if bytes_eq word (codes "while-free") then Some (rates.WhileFree n)
    else None

-- `each:N` or `while-free:N`
abbrev pub numbered_rule : Text → Option Rate
numbered_rule text = do
  colon ← sign_at 0x3a text
  n ← number_within 1 255 (drop (colon + 1) text)
  rule_by (take colon text) n

abbrev pub rule_of : Text → Option Rate
rule_of text = if bytes_eq text (codes "free") then Some rates.Free else numbered_rule text

-- NAME=RULE, of the last sign
abbrev pub rate_of : Text → Option (List ℕ × Rate)
rate_of text = do
  sign ← last_equals text
  name ← named (take sign text)
  rate ← rule_of (drop (sign + 1) text)
  Some (name, rate)

-- NAME=PORT, of the last sign
abbrev pub device_of : Text → Option (List ℕ × ℕ)
device_of text = do
  sign ← last_equals text
  name ← named (take sign text)
  port ← port_of (drop (sign + 1) text)
  Some (name, port)

-- LINE=NAME=PORT, of the first sign and the last one
abbrev pub offer_of : ℕ → Text → Option Offer
offer_of lines text = do
  sign ← sign_at equals text
  line ← number_within 1 lines (take sign text)
  device ← device_of (drop (sign + 1) text)
  Some (record { line = line; name = device.0; port = device.1 })
