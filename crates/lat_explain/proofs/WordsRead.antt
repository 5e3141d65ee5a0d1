-- What goes with a form is what is read as such a word.
use Rattle.std.proofs.Common.{◌≡◌, ◌≢◌, ℕ, ◌+◌, ◌*◌, ◌/◌, ◌%◌, Bool, true, false, not, List, [], ◌∷◌, length, refl, sym, ap, ◌∙◌, arith, inl, inr}
use Rattle.std.specs.Prelude.{Option, Some, None, is_some, option_map, option_and_then, nat_le, nat_eq, codes, ◌==◌, ◌&&◌, if◌then◌else◌}
use Rattle.std.specs.Fmt.{digits}
use Rattle.std.specs.List.{list_all}
use Rattle.std.specs.Result.{result_ok}
use Rattle.std.proofs.lemmas.Bool.Decides.{nat_tests}
use Rattle.hex.specs.Hex.{hex_digit_value, decode_of, decode_sized}
use Rattle.lat_base.specs.declared.addr.Addr.{Addr}
use Rattle.lat_text.specs.Digits.{address_of, bytes_of}
use Rattle.lat_text.specs.Lines.{lines_of}
use Rattle.lat_text.proofs.HexRead.{even_read, odd_read, pairs_of}
use Rattle.lat_explain.specs.declared.form.Kind.TheVariants as kinds
use Rattle.lat_explain.specs.Awaited.{payload_forms}
use Rattle.lat_explain.specs.Columns.{AllFit, HasSome, forms_in, joined}
use Rattle.lat_explain.specs.Forms.{Taken, begins_hex, fits, fits_hex, fits_number, is_hex, is_station_taken, kind_of}
use Rattle.lat_explain.specs.Laws.{PayloadsAreRead, WordsAreRead}
use Rattle.lat_explain.proofs.OpenForms.{fits_is}
use Rattle.lat_explain.proofs.OtherStations.{twelve_read}
use Rattle.lat_explain.proofs.Tests.{both, true_eq, false_true}

pairs_some : (text : List ℕ) → length text % 2 ≡ 0 → is_some (pairs_of text) ≡ list_all is_hex text
unfolding pairs_of
pairs_some [] even = refl
pairs_some (d ∷ []) even = absurd (omega (arith, even))
pairs_some (a ∷ b ∷ text) even = by (hex_digit_value a) refl (hex_digit_value b) refl (pairs_some text (omega (arith, even)))
  where
    hex_so : (d : ℕ) (o : Option ℕ) → hex_digit_value d ≡ o → is_hex d ≡ is_some o
    hex_so d None e = ap (λ (o : Option ℕ). is_some (option_and_then (λ (h : ℕ). option_map (λ (l : ℕ). h * 16 + l) o) o)) e
    hex_so d (Some v) e = ap (λ (o : Option ℕ). is_some (option_and_then (λ (h : ℕ). option_map (λ (l : ℕ). h * 16 + l) o) o)) e

    mapped : (v : ℕ) (o : Option (List ℕ)) → is_some (option_map (λ (bytes : List ℕ). v ∷ bytes) o) ≡ is_some o
    mapped v None = refl
    mapped v (Some bytes) = refl

    read : (x y : Option ℕ) → hex_digit_value a ≡ x → hex_digit_value b ≡ y
        → pairs_of (a ∷ b ∷ text) ≡ option_and_then (λ (byte : ℕ). option_map (λ (bytes : List ℕ). byte ∷ bytes) (pairs_of text)) (option_and_then (λ (h : ℕ). option_map (λ (l : ℕ). h * 16 + l) y) x)
    read x y ea eb =
        ap (λ (o : Option ℕ). option_and_then (λ (byte : ℕ). option_map (λ (bytes : List ℕ). byte ∷ bytes) (pairs_of text)) (option_and_then (λ (h : ℕ). option_map (λ (l : ℕ). h * 16 + l) (hex_digit_value b)) o)) ea
        ∙ ap (λ (o : Option ℕ). option_and_then (λ (byte : ℕ). option_map (λ (bytes : List ℕ). byte ∷ bytes) (pairs_of text)) (option_and_then (λ (h : ℕ). option_map (λ (l : ℕ). h * 16 + l) o) x)) eb

    tests : (x y : Option ℕ) → hex_digit_value a ≡ x → hex_digit_value b ≡ y → (is_hex a && (is_hex b && list_all is_hex text)) ≡ (is_some x && (is_some y && list_all is_hex text))
    tests x y ea eb =
        ap (λ (t : Bool). t && (is_hex b && list_all is_hex text)) (hex_so a x ea) ∙ ap (λ (t : Bool). is_some x && (t && list_all is_hex text)) (hex_so b y eb)

    by : (x : Option ℕ) → hex_digit_value a ≡ x → (y : Option ℕ) → hex_digit_value b ≡ y → is_some (pairs_of text) ≡ list_all is_hex text
        → is_some (pairs_of (a ∷ b ∷ text)) ≡ (is_hex a && (is_hex b && list_all is_hex text))
    by None ea y eb ih = ap is_some (read None y ea eb) ∙ sym (tests None y ea eb)
    by (Some h) ea None eb ih = ap is_some (read (Some h) None ea eb) ∙ sym (tests (Some h) None ea eb)
    by (Some h) ea (Some l) eb ih = ap is_some (read (Some h) (Some l) ea eb) ∙ mapped (h * 16 + l) (pairs_of text) ∙ ih ∙ sym (tests (Some h) (Some l) ea eb)

-- an even number of digits within bounds
read_same : (a e c d : Bool) (o : Option (List ℕ)) → (e ≡ true → is_some o ≡ d) → (e ≡ false → o ≡ None) → ((a && e) && (c && d)) ≡ is_some (if a && c then o else None)
read_same false e c d o h k = refl
read_same true false c d o h k = by c (k refl)
  where
    by : (c : Bool) → o ≡ None → false ≡ is_some (if c then o else None)
    by true none = sym (ap is_some none)
    by false none = refl
read_same true true false d o h k = refl
read_same true true true d o h k = sym (h refl)

odd : (n : ℕ) → nat_eq (n % 2) 0 ≡ false → n % 2 ≢ 0
odd n e is = let yes_so : nat_eq (n % 2) 0 ≡ true = grind (arith, nat_tests) in false_true (sym e ∙ yes_so)

digits_read : (word : List ℕ) (least most : ℕ) → fits_hex (least, most) word ≡ is_some (bytes_of least most word)
unfolding fits_hex begins_hex
digits_read word least most =
    read_same (nat_le least (length word)) (nat_eq (length word % 2) 0) (nat_le (length word) most) (list_all is_hex word) (result_ok (decode_of word))
    (λ e. let even = true_eq (length word % 2) 0 e in ap is_some (even_read word even) ∙ pairs_some word even)
    (λ e. odd_read word (odd (length word) e))

-- six bytes

mapped_some : {A B : Type 0} (f : A → B) (o : Option A) → is_some (option_map f o) ≡ is_some o
mapped_some f None = refl
mapped_some f (Some x) = refl

other_none : (text : List ℕ) → ¬ (length text ≡ 12) → address_of text ≡ None
other_none text other = by (length text % 2 == 1) refl
  where
    six : (t : Bool) → (length text / 2 == 6) ≡ t → (length text % 2 == 1) ≡ false → t ≡ false
    six false e odd = refl
    six true e odd =
        let half : length text / 2 ≡ 6 = true_eq (length text / 2) 6 e in
        let even : length text % 2 ≡ 0 = grind (arith, nat_tests) in
        absurd (other (omega (arith, half, even)))

    by : (t : Bool) → (length text % 2 == 1) ≡ t → address_of text ≡ None
    by true e = rw e refl
    by false e = rw (e, six (length text / 2 == 6) refl e) refl

twelve_so : (word : List ℕ) → length word ≡ 12 → fits_hex (12, 12) word ≡ is_some (address_of word)
twelve_so word long =
    let even : length word % 2 ≡ 0 = ap (λ (n : ℕ). n % 2) long in
    digits_read word 12 12 ∙ ap (λ (t : Bool). is_some (if t then result_ok (decode_of word) else None)) within
    ∙ ap is_some (even_read word even ∙ sym (twelve_read word long)) ∙ sym (mapped_some the_address (result_ok (decode_sized word 6)))
  where
    the_address : List ℕ → Addr
    the_address bytes = record { 0 = bytes }

    within : (nat_le 12 (length word) && nat_le (length word) 12) ≡ true
    within = ap (λ (n : ℕ). nat_le 12 n && nat_le n 12) long

fits_twelve : (word : List ℕ) → fits_hex (12, 12) word ≡ true → length word ≡ 12
unfolding fits_hex begins_hex
fits_twelve word h =
    let parts = both (nat_le 12 (length word) && nat_eq (length word % 2) 0) (nat_le (length word) 12 && list_all is_hex word) h in
    let low = (both (nat_le 12 (length word)) (nat_eq (length word % 2) 0) parts.0).0 in
    let high = (both (nat_le (length word) 12) (list_all is_hex word) parts.1).0 in
    grind (arith, nat_tests)

address_read : (word : List ℕ) → fits_hex (12, 12) word ≡ is_some (address_of word)
address_read word = by (nat_eq (length word) 12) refl (fits_hex (12, 12) word) refl
  where
    by : (t : Bool) → nat_eq (length word) 12 ≡ t → (f : Bool) → fits_hex (12, 12) word ≡ f → fits_hex (12, 12) word ≡ is_some (address_of word)
    by true e f ef = twelve_so word (true_eq (length word) 12 e)
    by false e true ef = twelve_so word (fits_twelve word ef)
    by false e false ef =
        let none : ¬ (length word ≡ 12) = λ is. false_true (sym e ∙ eq_so is) in
        ef ∙ sym (ap is_some (other_none word none))
      where
        eq_so : length word ≡ 12 → nat_eq (length word) 12 ≡ true
        eq_so is = ap (λ (n : ℕ). nat_eq n 12) is

pub words_read : WordsAreRead
unfolding fits_number
words_read = record {
  numbers = λ taken form word least most. refl;
  digits = λ taken form word least most. digits_read word least most;
  stations = λ taken form word. ap (λ (t : Bool). t && not (is_station_taken taken word)) (address_read word);
  names = λ taken form word. refl;
}

-- payloads

payload_kind : kind_of (codes "H0-8192") ≡ kinds.Hex 0 8192
unfolding kind_of digits
payload_kind = refl

payload_fits : (taken : Taken) (word : List ℕ) → fits taken (codes "H0-8192") word ≡ is_some (bytes_of 0 8192 word)
payload_fits taken word = fits_is taken (codes "H0-8192") word (kinds.Hex 0 8192) payload_kind ∙ digits_read word 0 8192

pub payloads_read : PayloadsAreRead
payloads_read taken line = (there, back)
  where
    by : (words : List (List ℕ)) → AllFit taken (codes "H0-8192" ∷ []) words → line ≡ joined words → is_some (bytes_of 0 8192 line) ≡ true
    by [] fit is = absurd fit
    by (w ∷ []) fit is = ap (λ (l : List ℕ). is_some (bytes_of 0 8192 l)) is ∙ sym (payload_fits taken w) ∙ fit.0
    by (w ∷ v ∷ words) fit is = absurd fit.1

    there : HasSome taken (forms_in (lines_of payload_forms)) line → is_some (bytes_of 0 8192 line) ≡ true
    there (inl has) = by has.words has.fit has.is
    there (inr none) = absurd none

    back : is_some (bytes_of 0 8192 line) ≡ true → HasSome taken (forms_in (lines_of payload_forms)) line
    back h = inl (record { words = line ∷ []; fit = (payload_fits taken line ∙ h, tt); is = refl })
