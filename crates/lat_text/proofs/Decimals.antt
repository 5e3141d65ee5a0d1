-- Texts of numbers.
use Rattle.std.proofs.Common.{◌≡◌, ◌≢◌, ℕ, ◌+◌, ◌^◌, ◌<◌, ◌≤◌, suc, zero, Bool, true, false, List, [], ◌∷◌, length, take, get_or, refl, sym, ap, ◌∙◌, arith}
use Rattle.std.specs.Prelude.{Some, None, Result, Ok, Err, nat_lt, bytes_eq, decimal, ◌==◌}
use Rattle.std.specs.Result.{result_ok}
use Rattle.std.specs.Char.{digit_value}
use Rattle.std.specs.Str.{IsUtf8}
use Rattle.std.specs.Str.Parse.{AllDigits, IsNumeral, digits_value, ParsesUnsigned}
use Rattle.std.proofs.lemmas.List.{length-take}
use Rattle.std.proofs.lemmas.Str.{IsUtf8-from_ascii}
use Rattle.std.proofs.lemmas.Str.Parse.{IsNumeralModel, numerals_by_value, tells_digits, without_leading_plus_none, digits_value_short}
use Rattle.std.proofs.lemmas.Fmt.{decimal_is_IsNumeral, decimal_digit, first_decimal, IsAscii-decimal, decimal-digits_value}
use Rattle.std.proofs.lemmas.Slice.Eq.{bytes_eq-Decides}
use Rattle.std.proofs.lemmas.Bool.Decides.{nat_tests}
use Rattle.lat_text.specs.Numbers.{if_decimal, is_padded, number_of}

own : IsNumeralModel (AllDigits 10) (digits_value 10)
own = numerals_by_value (AllDigits 10) tells_digits

-- a text that is no decimal text is no number
not_decimal : (text : List ℕ) → ((n : ℕ) → n < 2 ^ 64 → text ≡ decimal n → ⊥) → None ≡ number_of text
not_decimal text never = by (digits_value 10 text) (nat_lt (digits_value 10 text) (2 ^ 64)) refl (bytes_eq text (decimal (digits_value 10 text))) refl
  where
    by : (n : ℕ) (a : Bool) → nat_lt n (2 ^ 64) ≡ a → (b : Bool) → bytes_eq text (decimal n) ≡ b → None ≡ if_decimal text n
    by n true ea true eb = absurd (never n (grind (arith, nat_tests)) ((bytes_eq-Decides text (decimal n)).0 eb))
    by n true ea false eb = rw (ea, eb) refl
    by n false ea b eb = rw ea refl

-- a decimal text has no sign and no needless 0
high_first : (text : List ℕ) → 48 < get_or text 0 0 → is_padded text ≡ false
high_first [] h = refl
high_first (first ∷ rest) h =
    let no_plus : (first == 43) ≡ false = grind (arith, nat_tests) in
    let no_zero : (first == 48) ≡ false = grind (arith, nat_tests) in
    rw (no_plus, no_zero) refl

decimal_plain : (n : ℕ) → n < 2 ^ 64 → is_padded (decimal n) ≡ false
decimal_plain zero h = rw (decimal_digit 0 (omega arith)) refl
decimal_plain (suc n) h = high_first (decimal (suc n)) (first_decimal (suc n) (omega arith) h)

-- the bytes up to a digit are digits where those before it are
pub digits_more : (text : List ℕ) (at : ℕ) → at < length text → AllDigits 10 (take at text) → digit_value (get_or text at 0) < 10 → AllDigits 10 (take (at + 1) text)
digits_more [] at within front digit = absurd (omega (arith, within))
digits_more (c ∷ text) zero within front digit = (digit, tt)
digits_more (c ∷ text) (suc at) within front digit =
    let one : suc at + 1 ≡ suc (at + 1) = omega arith in
    rw one (front.0, digits_more text at (omega (arith, within)) front.1 digit)

digit_at : (text : List ℕ) (at : ℕ) → at < length text → AllDigits 10 text → digit_value (get_or text at 0) < 10
digit_at [] at within digits = absurd (omega (arith, within))
digit_at (c ∷ text) zero within digits = digits.0
digit_at (c ∷ text) (suc at) within digits = digit_at text at (omega (arith, within)) digits.1

-- what so few digits write is small enough for one digit more
pub room_for_more : (text : List ℕ) (at : ℕ) → at < 19 → AllDigits 10 (take at text) → digits_value 10 (take at text) < 10 ^ 18
room_for_more text at few digits = digits_value_short own (take at text) 18 digits (omega (arith, length-take at text, few))

pub padded_none : (text : List ℕ) → is_padded text ≡ true → None ≡ number_of text
padded_none text padded =
    not_decimal text (λ n h is. let differ : true ≡ false = sym padded ∙ ap is_padded is ∙ decimal_plain n h in cc)

pub not_utf8_none : (text : List ℕ) → ¬ (IsUtf8 text) → None ≡ number_of text
not_utf8_none text never =
    not_decimal text (λ n h is. never (rw is (IsUtf8-from_ascii (decimal n) (IsAscii-decimal n h))))

plain_front : (text : List ℕ) → is_padded text ≡ false → (get_or text 0 0 ≢ 43) × (get_or text 0 0 ≡ 48 → length text ≡ 1)
plain_front [] h = (λ e. omega (arith, e), λ e. omega (arith, e))
plain_front (first ∷ rest) h = (λ e. grind (arith, nat_tests), λ e. grind (arith, nat_tests))

-- what `parse` reads of a text that isn't padded
pub parse_is : {E : Type 0} (text : List ℕ) (r : Result ℕ E) → is_padded text ≡ false → ParsesUnsigned 64 10 text r → result_ok r ≡ number_of text
parse_is text (Ok n) plain h =
    let front = plain_front text plain in
    let bare = without_leading_plus_none text front.0 in
    let read = rw bare at h in
    let is : decimal (digits_value 10 text) ≡ text = decimal-digits_value own text read.0.0.1 read.0.0.0 front.1 read.0.1 in
    let small : nat_lt (digits_value 10 text) (2 ^ 64) ≡ true = let below = read.0.1 in grind (arith, nat_tests) in
    let same : bytes_eq text (decimal (digits_value 10 text)) ≡ true = (bytes_eq-Decides text (decimal (digits_value 10 text))).1 (sym is) in
    rw (small, same) (ap Some read.1)
parse_is text (Err e) plain h =
    let front = plain_front text plain in
    let bare = without_leading_plus_none text front.0 in
    let never = rw bare at h in
    not_decimal text (λ n below is.
    let numeral = decimal_is_IsNumeral n below in
    let digits : IsNumeral 10 text = rw is numeral.0 in
    let value : digits_value 10 text ≡ n = rw is numeral.1 in
    never (digits, omega (arith, below, value)))

-- a text with a byte that is no digit is no number
pub other_byte_none : (text : List ℕ) (at : ℕ) → at < length text → is_padded text ≡ false → 10 ≤ digit_value (get_or text at 0) → None ≡ number_of text
other_byte_none text at within plain high =
    parse_is {E = ℕ} text (Err 0) plain (rw (without_leading_plus_none text (plain_front text plain).0) (λ reads. omega (arith, high, digit_at text at within reads.0.1)))

-- at most 19 digits are the number that they write
pub digits_are : (text : List ℕ) (n : ℕ) → 0 < length text → length text ≤ 19 → is_padded text ≡ false → AllDigits 10 text → n ≡ digits_value 10 text → Some n ≡ number_of text
digits_are text n some few plain digits is =
    let below : digits_value 10 text < 10 ^ 19 = digits_value_short own text 19 digits few in
    parse_is {E = ℕ} text (Ok n) plain (rw (without_leading_plus_none text (plain_front text plain).0) (((some, digits), omega (arith, below)), is))
