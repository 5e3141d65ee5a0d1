-- The fields of a printed line are read as what they were printed of.
use Rattle.std.proofs.Common.{◌≡◌, ℕ, zero, suc, ◌+◌, ◌*◌, ◌/◌, ◌%◌, ◌^◌, ◌<◌, ◌≤◌, Bool, true, false, List, [], ◌∷◌, ◌++◌, length, slice_index, refl, ap, ◌∙◌, arith, lit<}
use Rattle.std.specs.Prelude.{Some, nat_lt, nat_le, bytes_eq, codes, decimal, Ok, option_and_then, ◌==◌}
use Rattle.std.specs.List.{AllPass, list_all}
use Rattle.std.specs.Result.{result_ok}
use Rattle.std.specs.Char.{digit_value}
use Rattle.std.specs.Str.Parse.{AllDigits, digits_value}
use Rattle.std.proofs.lemmas.Str.Parse.{IsNumeralModel, numerals_by_value, tells_digits}
use Rattle.std.proofs.lemmas.Fmt.{digits_decimal, digits_value-decimal}
use Rattle.std.proofs.lemmas.Bool.{and_parts}
use Rattle.std.proofs.lemmas.Bool.Decides.{nat_tests}
use Rattle.hex.specs.Hex.{IsBytes, is_hex_digit, encode_lower, lower_digits, decode_of, decode_sized}
use Rattle.hex.proofs.HexLemmas.{IsDigits-lower_digits, decode_of-encode_lower, decode_of-ok, decode_sized-twice}
use Rattle.lat_base.specs.Names.{IsName, name_byte, name_read}
use Rattle.lat_base.proofs.NameLemmas.{name_reads}
use Rattle.lat_text.specs.Digits.{byte_of, bytes_of, payload_of}
use Rattle.lat_text.specs.HexText.{byte_text, hex_text}
use Rattle.lat_text.specs.NameText.{is_plain, name_byte_text, name_text}
use Rattle.lat_text.specs.NameWritten.{bytes_written, name_of}
use Rattle.lat_text.specs.Numbers.{number_of, number_within, moment_of}
use Rattle.lat_text.proofs.HexWritten.{byte_written}
use Rattle.lat_schedule.proofs.Words.{IsWord, words_join, same_bytes}

own : IsNumeralModel (AllDigits 10) (digits_value 10)
own = numerals_by_value (AllDigits 10) tells_digits

-- numbers

digit_visible : (c : ℕ) → digit_value c < 10 → 32 < c
digit_visible c h = grind (arith, nat_tests)

digits_visible : (cs : List ℕ) → AllDigits 10 cs → IsWord cs
digits_visible [] h = tt
digits_visible (c ∷ cs) h = (digit_visible c h.0, digits_visible cs h.1)

pub decimal_word : (n : ℕ) → n < 2 ^ 64 → IsWord (decimal n)
decimal_word n h = digits_visible (decimal n) (digits_decimal own n h)

-- a number is read as it is written
pub decimal_read : (n : ℕ) → n < 2 ^ 64 → number_of (decimal n) ≡ Some n
decimal_read n h =
    let value : digits_value 10 (decimal n) ≡ n = digits_value-decimal own n h in
    let small : nat_lt n (2 ^ 64) ≡ true = grind (arith, nat_tests) in
    rw (value, small, same_bytes (decimal n)) refl

pub within_read : (least most n : ℕ) → least ≤ n → n ≤ most → n < 2 ^ 64 → number_within least most (decimal n) ≡ Some n
within_read least most n low high small =
    let a : nat_le least n ≡ true = grind (arith, nat_tests) in
    let b : nat_le n most ≡ true = grind (arith, nat_tests) in
    rw (decimal_read n small, a, b) refl

pub moment_read : (n : ℕ) → n < 10 ^ 15 → moment_of (decimal n) ≡ Some n
moment_read n low =
    let a : nat_lt n (10 ^ 15) ≡ true = grind (arith, nat_tests) in
    rw (decimal_read n (omega arith), a) refl

-- bytes in hex

hex_visible : (c : ℕ) → is_hex_digit c ≡ true → 32 < c
hex_visible c h = grind (arith, nat_tests)

all_visible : (cs : List ℕ) → AllPass is_hex_digit cs → IsWord cs
all_visible [] h = tt
all_visible (c ∷ cs) h = (hex_visible c (h 0 c (omega arith)), all_visible cs (λ k d l. h (suc k) d (omega arith)))

-- digits of so many bytes are no `-`
no_dash : (cs : List ℕ) (n : ℕ) → length cs ≡ 2 * n → bytes_eq cs (codes "-") ≡ false
no_dash [] n long = refl
no_dash (a ∷ []) n long = absurd (omega (arith, long))
no_dash (a ∷ b ∷ cs) n long = by (a == 45) refl
  where
    by : (test : Bool) → (a == 45) ≡ test → bytes_eq (a ∷ b ∷ cs) (codes "-") ≡ false
    by true e = rw e refl
    by false e = rw e refl

-- what is known of the digits of bytes
pub record Digits (bytes : List ℕ) : Type 0 where
  pub word : IsWord (encode_lower bytes)
  pub long : length (encode_lower bytes) ≡ 2 * length bytes
  pub decoded : decode_of (encode_lower bytes) ≡ Ok bytes

pub digits_of : (bytes : List ℕ) → IsBytes bytes → Digits bytes
digits_of bytes are =
    let decoded = decode_of-encode_lower bytes are in
    let known = decode_of-ok (encode_lower bytes) bytes decoded in
    record { word = all_visible (encode_lower bytes) known.1; long = known.2; decoded = decoded }

pub hex_word : (bytes : List ℕ) → IsBytes bytes → IsWord (hex_text bytes)
hex_word [] are = (lit< tt, tt)
hex_word (b ∷ bytes) are = (digits_of (b ∷ bytes) are).word

digits_read : (n : ℕ) (cs bytes : List ℕ) → length cs ≡ 2 * n → 1 ≤ n → n ≤ 4096 → decode_of cs ≡ Ok bytes → bytes_of 2 8192 cs ≡ Some bytes
digits_read n cs bytes long some few decoded =
    let above : nat_le 2 (length cs) ≡ true = grind (arith, nat_tests, long) in
    let below : nat_le (length cs) 8192 ≡ true = grind (arith, nat_tests, long) in
    rw (above, below, decoded) refl

pub bytes_read : (bytes : List ℕ) → IsBytes bytes → 1 ≤ length bytes → length bytes ≤ 4096 → bytes_of 2 8192 (hex_text bytes) ≡ Some bytes
bytes_read [] are some few = absurd (omega (arith, some))
bytes_read (b ∷ bytes) are some few =
    let d = digits_of (b ∷ bytes) are in
    digits_read (length (b ∷ bytes)) (encode_lower (b ∷ bytes)) (b ∷ bytes) d.long some few d.decoded

pub payload_read : (bytes : List ℕ) → IsBytes bytes → length bytes ≤ 4096 → payload_of (hex_text bytes) ≡ Some bytes
payload_read [] are few = refl
payload_read (b ∷ bytes) are few =
    let d = digits_of (b ∷ bytes) are in
    rw (no_dash (encode_lower (b ∷ bytes)) (length (b ∷ bytes)) d.long)
    (digits_read (length (b ∷ bytes)) (encode_lower (b ∷ bytes)) (b ∷ bytes) d.long (omega arith) few d.decoded)

-- so many bytes
pub sized_read : (n : ℕ) (bytes : List ℕ) → IsBytes bytes → length bytes ≡ n → result_ok (decode_sized (encode_lower bytes) n) ≡ Some bytes
sized_read n bytes are long =
    let d = digits_of bytes are in
    let twice = d.long in
    ap result_ok (decode_sized-twice (encode_lower bytes) n (omega (arith, twice, long)) ∙ d.decoded)

-- the two digits of a byte
pub byte_read : (b : ℕ) → b < 256 → byte_of (slice_index lower_digits (b / 16)) (slice_index lower_digits (b % 16)) ≡ Some b
byte_read b fits =
    let high : b / 16 < 16 = omega arith in
    let low : b % 16 < 16 = omega arith in
    let whole : b / 16 * 16 + b % 16 ≡ b = omega arith in
    rw (IsDigits-lower_digits (b / 16) high, IsDigits-lower_digits (b % 16) low) (ap Some whole)

pub byte_word : (b : ℕ) → b < 256 → IsWord (byte_text b)
unfolding byte_text
byte_word b fits = (digits_of (b ∷ []) (one_byte b fits)).word
  where
    one_byte : (b : ℕ) → b < 256 → IsBytes (b ∷ [])
    one_byte b fits zero = fits
    one_byte b fits (suc k) = omega arith

-- names

name_byte_fits : (b : ℕ) → name_byte b ≡ true → b < 256
name_byte_fits b is = grind (arith, nat_tests)

name_byte_word : (b : ℕ) → name_byte b ≡ true → IsWord (name_byte_text b)
name_byte_word b is = by (is_plain b) refl
  where
    by : (test : Bool) → is_plain b ≡ test → IsWord (name_byte_text b)
    by true e = rw e (let high : 32 < b = grind (arith, nat_tests) in (high, tt))
    by false e = rw e (words_join (codes "%") (byte_text b) (lit< tt, tt) (byte_word b (name_byte_fits b is)))

pub name_word : (name : List ℕ) → list_all name_byte name ≡ true → IsWord (name_text name)
name_word [] all = tt
name_word (b ∷ name) all =
    let parts = and_parts (name_byte b) (list_all name_byte name) all in
    words_join (name_byte_text b) (name_text name) (name_byte_word b parts.0) (name_word name parts.1)

-- what is read of an escaped byte
escaped_read : (most b : ℕ) (rest name : List ℕ) → b < 256 → is_plain b ≡ false → bytes_written most rest ≡ Some name →
    bytes_written (suc most) (codes "%" ++ (byte_text b ++ rest)) ≡ Some (b ∷ name)
escaped_read most b rest name fits plain read = rw (byte_written b, byte_read b fits, plain, read) refl

byte_of_name : (most b : ℕ) (rest name : List ℕ) → name_byte b ≡ true → bytes_written most rest ≡ Some name →
    bytes_written (suc most) (name_byte_text b ++ rest) ≡ Some (b ∷ name)
byte_of_name most b rest name is read = by (is_plain b) refl
  where
    by : (test : Bool) → is_plain b ≡ test → bytes_written (suc most) (name_byte_text b ++ rest) ≡ Some (b ∷ name)
    by true e = rw (e, e, read) refl
    by false e = rw e (escaped_read most b rest name (name_byte_fits b is) e read)

name_written : (most : ℕ) (name : List ℕ) → length name ≤ most → list_all name_byte name ≡ true → bytes_written most (name_text name) ≡ Some name
name_written most [] few all = refl
name_written zero (b ∷ name) few all = absurd (omega (arith, few))
name_written (suc most) (b ∷ name) few all =
    let parts = and_parts (name_byte b) (list_all name_byte name) all in
    byte_of_name most b (name_text name) name parts.0 (name_written most name (omega (arith, few)) parts.1)

pub named_read : (name : List ℕ) → IsName name → name_of (name_text name) ≡ Some name
named_read name is =
    ap (option_and_then (λ bytes. result_ok (name_read bytes))) (name_written 16 name is.most is.each) ∙ ap result_ok (name_reads name is)
