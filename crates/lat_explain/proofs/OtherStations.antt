-- Addresses that no end has: that there is one behind each beginning of one.
use Rattle.std.proofs.Common.{◌≡◌, ℕ, ◌+◌, ◌-◌, ◌*◌, ◌/◌, ◌%◌, ◌<◌, ◌≤◌, Bool, true, false, not, List, [], ◌∷◌, ◌++◌, length, replicate, append_assoc, append-nil, refl, sym, ap, ◌∙◌, subst, arith, length-append}
use Rattle.std.specs.Prelude.{Option, Some, None, is_some, option_map, option_and_then, nat_le, nat_lt, nat_eq, bytes_eq, codes, ◌==◌, ◌&&◌, ◌||◌}
use Rattle.std.specs.List.{list_all}
use Rattle.std.specs.Result.{result_ok}
use Rattle.std.proofs.lemmas.List.{length-replicate, nil_from_length}
use Rattle.std.proofs.lemmas.List.Folds.{list_all-append}
use Rattle.std.proofs.lemmas.Slice.Eq.{bytes_eq-Decides}
use Rattle.std.proofs.lemmas.Bool.Decides.{nat_tests}
use Rattle.hex.specs.Hex.{hex_digit_value, decode_sized, decode_pairs}
use Rattle.lat_base.specs.declared.addr.Addr.{Addr}
use Rattle.lat_text.specs.Digits.{byte_of, address_of}
use Rattle.lat_text.proofs.HexRead.{pairs_of, pairs_read}
use Rattle.lat_explain.specs.Forms.{Taken, is_hex, begins_hex, fits_hex, begins_station, fits_station, is_station_taken, same_station}
use Rattle.lat_explain.proofs.Tests.{both, and_so, other_one, le_true, true_le, true_lt, false_lt, false_true}
use Rattle.lat_explain.proofs.WordKinds.{hex_begins, all_zeros}
use Rattle.lat_explain.proofs.NameShapes.{byte_from, digit_below}
use Rattle.lat_explain.proofs.OtherNames.{last_of}

-- a digit's value
record HasValue (b : ℕ) : Type 0 where
  pub value : ℕ
  pub is : hex_digit_value b ≡ Some value
  pub below : value < 16

hex_value : (b : ℕ) → is_hex b ≡ true → HasValue b
hex_value b h = by (hex_digit_value b) refl h
  where
    by : (o : Option ℕ) → hex_digit_value b ≡ o → is_some (option_and_then (λ (h : ℕ). option_map (λ (l : ℕ). h * 16 + l) o) o) ≡ true → HasValue b
    by None e k = false_true k
    by (Some v) e k = record { value = v; is = e; below = digit_below b v e }

-- the bytes of digits, of which the last one has this value
record Ends (text : List ℕ) (v : ℕ) : Type 0 where
  pub first : ℕ
  pub rest : List ℕ
  pub is : pairs_of text ≡ Some (first ∷ rest)
  pub last : last_of (first ∷ rest) % 16 ≡ v

-- the bytes of a pair and of others
pair_first : (high low : ℕ) (text : List ℕ) (byte : ℕ) (bytes : List ℕ) → byte_of high low ≡ Some byte → pairs_of text ≡ Some bytes → pairs_of (high ∷ low ∷ text) ≡ Some (byte ∷ bytes)
unfolding pairs_of
pair_first high low text byte bytes is more =
    ap (λ (o : Option ℕ). option_and_then (λ (b : ℕ). option_map (λ (bs : List ℕ). b ∷ bs) (pairs_of text)) o) is ∙ ap (option_map (λ (bs : List ℕ). byte ∷ bs)) more

pairs_end : (p : List ℕ) (d v : ℕ) → length p % 2 ≡ 1 → list_all is_hex p ≡ true → hex_digit_value d ≡ Some v → v < 16 → Ends (p ++ d ∷ []) v
unfolding pairs_of
pairs_end [] d v odd h is lt = absurd (omega (arith, odd))
pairs_end (a ∷ []) d v odd h is lt =
    let high = hex_value a (both (is_hex a) true h).0 in
    record {
      first = high.value * 16 + v;
      rest = [];
      is = ap (λ (o : Option ℕ). option_and_then (λ (byte : ℕ). option_map (λ (bytes : List ℕ). byte ∷ bytes) (Some [])) o) (byte_from a d high.value v high.is is);
      last = omega (arith, lt);
    }
pairs_end (a ∷ b ∷ p) d v odd h is lt =
    let one = both (is_hex a) (list_all is_hex (b ∷ p)) h in
    let two = both (is_hex b) (list_all is_hex p) one.1 in
    let high = hex_value a one.0 in
    let low = hex_value b two.0 in
    let more = pairs_end p d v (omega (arith, odd)) two.1 is lt in
    record {
      first = high.value * 16 + low.value;
      rest = more.first ∷ more.rest;
      is = pair_first a b (p ++ d ∷ []) (high.value * 16 + low.value) (more.first ∷ more.rest) (byte_from a b high.value low.value high.is low.is) more.is;
      last = more.last;
    }

pub twelve_read : (text : List ℕ) → length text ≡ 12 → result_ok (decode_sized text 6) ≡ pairs_of text
twelve_read text long =
    let even : (length text % 2 == 1) ≡ false = ap (λ (n : ℕ). n % 2 == 1) long in
    let six : (length text / 2 == 6) ≡ true = ap (λ (n : ℕ). n / 2 == 6) long in
    rw (even, six) (pairs_read 0 text)

-- an address whose last digit has this value
record AddressEnds (text : List ℕ) (v : ℕ) : Type 0 where
  pub bytes : List ℕ
  pub is : address_of text ≡ Some (record { 0 = bytes })
  pub last : last_of bytes % 16 ≡ v

address_ends : (p : List ℕ) (d v : ℕ) → length p ≡ 11 → list_all is_hex p ≡ true → hex_digit_value d ≡ Some v → v < 16 → AddressEnds (p ++ d ∷ []) v
address_ends p d v long h is lt =
    let ends = pairs_end p d v (ap (λ (n : ℕ). n % 2) long) h is lt in
    let twelve : length (p ++ d ∷ []) ≡ 12 = omega (arith, long, length-append p (d ∷ [])) in
    record {
      bytes = ends.first ∷ ends.rest;
      is = ap (option_map (λ (bytes : List ℕ). the_address bytes)) (twelve_read (p ++ d ∷ []) twelve ∙ ends.is);
      last = ends.last;
    }
  where
    the_address : List ℕ → Addr
    the_address bytes = record { 0 = bytes }

-- a station whose last digit is another
differs : (a b : List ℕ) (v w : ℕ) → last_of a % 16 ≡ v → last_of b % 16 ≡ w → v < w → bytes_eq a b ≡ false
differs a b v w ea eb lt = by (bytes_eq a b) refl
  where
    by : (t : Bool) → bytes_eq a b ≡ t → t ≡ false
    by false e = refl
    by true e =
        let same : last_of a % 16 ≡ last_of b % 16 = ap (λ (l : List ℕ). last_of l % 16) ((bytes_eq-Decides a b).0 e) in
        absurd (omega (arith, same, ea, eb, lt))

-- the address of everyone ends otherwise
not_everyone : (bytes : List ℕ) (v : ℕ) → last_of bytes % 16 ≡ v → v < 2 → same_station (Some (record { 0 = bytes })) (address_of (codes "09002b00000f")) ≡ false
unfolding decode_pairs
not_everyone bytes v last lt = differs bytes (9 ∷ 0 ∷ 43 ∷ 0 ∷ 0 ∷ 15 ∷ []) v 15 last refl (omega (arith, lt))

-- one of two addresses isn't that of an end
free_station : (taken : Taken) (one two : List ℕ) → AddressEnds one 0 → AddressEnds two 1 → is_station_taken taken one ≡ true → is_station_taken taken two ≡ false
free_station taken one two a b h =
    let first : same_station (address_of one) (address_of (codes "09002b00000f")) ≡ false =
    ap (λ (o : Option Addr). same_station o (address_of (codes "09002b00000f"))) a.is ∙ not_everyone a.bytes 0 a.last (omega arith) in
    let second : same_station (address_of two) (address_of (codes "09002b00000f")) ≡ false =
    ap (λ (o : Option Addr). same_station o (address_of (codes "09002b00000f"))) b.is ∙ not_everyone b.bytes 1 b.last (omega arith) in
    let server = other_one (same_station (address_of one) (address_of (codes "09002b00000f"))) (same_station (address_of one) (address_of taken.server)) h first in
    ap (λ (t : Bool). t || same_station (address_of two) (address_of taken.server)) second
    ∙ ap (λ (o : Option Addr). same_station o (address_of taken.server)) b.is
    ∙ by (address_of taken.server) (sym (ap (λ (o : Option Addr). same_station o (address_of taken.server)) a.is) ∙ server)
  where
    by : (o : Option Addr) → same_station (Some (record { 0 = a.bytes })) o ≡ true → same_station (Some (record { 0 = b.bytes })) o ≡ false
    by None k = refl
    by (Some s) k =
        let same = (bytes_eq-Decides a.bytes s.0).0 k in
        let last : last_of s.0 % 16 ≡ 0 = ap (λ (l : List ℕ). last_of l % 16) (sym same) ∙ a.last in
        flipped (bytes_eq b.bytes s.0) refl last
      where
        flipped : (t : Bool) → bytes_eq b.bytes s.0 ≡ t → last_of s.0 % 16 ≡ 0 → t ≡ false
        flipped false e last = refl
        flipped true e last =
            let same : last_of b.bytes % 16 ≡ last_of s.0 % 16 = ap (λ (l : List ℕ). last_of l % 16) ((bytes_eq-Decides b.bytes s.0).0 e) in
            let one = b.last in
            absurd (omega (arith, same, one, last))

twelve_fits : (text : List ℕ) → length text ≡ 12 → list_all is_hex text ≡ true → fits_hex (12, 12) text ≡ true
unfolding fits_hex begins_hex
twelve_fits text long h =
    and_so (nat_le 12 (length text) && nat_eq (length text % 2) 0) (nat_le (length text) 12 && list_all is_hex text)
    (and_so (nat_le 12 (length text)) (nat_eq (length text % 2) 0) (le_true 12 (length text) (omega (arith, long))) (ap (λ (n : ℕ). nat_eq (n % 2) 0) long))
    (and_so (nat_le (length text) 12) (list_all is_hex text) (le_true (length text) 12 (omega (arith, long))) h)

station_fits : (taken : Taken) (text : List ℕ) → length text ≡ 12 → list_all is_hex text ≡ true → is_station_taken taken text ≡ false → fits_station taken text ≡ true
station_fits taken text long h free =
    and_so (fits_hex (12, 12) text) (not (is_station_taken taken text)) (twelve_fits text long h) (ap not free)

isnt : (t : Bool) → not t ≡ true → t ≡ false
isnt true h = false_true h
isnt false h = refl

-- what an address may begin with: so many digits at most
record Digits (c : List ℕ) : Type 0 where
  pub few : length c ≤ 12
  pub hex : list_all is_hex c ≡ true

digits_of : (c : List ℕ) → begins_hex (12, 12) c ≡ true → Digits c
unfolding begins_hex
digits_of c h =
    let parts = both (nat_le (length c) 12) (list_all is_hex c) h in
    record { few = true_le (length c) 12 parts.0; hex = parts.1 }

-- what may begin the address of another station goes on to one
pub station_goes_on : (taken : Taken) (c : List ℕ) → begins_station taken c ≡ true → (x : List ℕ) × (fits_station taken (c ++ x) ≡ true)
station_goes_on taken c h =
    let parts = both (begins_hex (12, 12) c) (not (is_station_taken taken c)) h in
    let digits = digits_of c parts.0 in
    by (nat_lt (length c) 12) refl digits.few digits.hex (isnt (is_station_taken taken c) parts.1)
  where
    -- one of two last digits
    ended : (p : List ℕ) → length p ≡ 11 → list_all is_hex p ≡ true → (t : Bool) → is_station_taken taken (p ++ 48 ∷ []) ≡ t → (d : ℕ) × (fits_station taken (p ++ d ∷ []) ≡ true)
    ended p long h false e =
        (48, station_fits taken (p ++ 48 ∷ []) (omega (arith, long, length-append p (48 ∷ []))) (list_all-append is_hex p (48 ∷ []) ∙ and_so (list_all is_hex p) true h refl) e)
    ended p long h true e =
        let free = free_station taken (p ++ 48 ∷ []) (p ++ 49 ∷ []) (address_ends p 48 0 long h refl (omega arith)) (address_ends p 49 1 long h refl (omega arith)) e in
        (49, station_fits taken (p ++ 49 ∷ []) (omega (arith, long, length-append p (49 ∷ []))) (list_all-append is_hex p (49 ∷ []) ∙ and_so (list_all is_hex p) true h refl) free)

    by : (t : Bool) → nat_lt (length c) 12 ≡ t → length c ≤ 12 → list_all is_hex c ≡ true → is_station_taken taken c ≡ false → (x : List ℕ) × (fits_station taken (c ++ x) ≡ true)
    by false e few digits free =
        let past = false_lt (length c) 12 e in
        let all = sym (append-nil c) in
        ([], subst (λ (l : List ℕ). fits_station taken l ≡ true) all (station_fits taken c (omega (arith, past, few)) digits free))
    by true e few digits free =
        let below = true_lt (length c) 12 e in
        let zeros : List ℕ = replicate (11 - length c) 48 in
        let long : length (c ++ zeros) ≡ 11 = omega (arith, below, length-append c zeros, length-replicate {A = ℕ} (11 - length c) 48) in
        let hex = list_all-append is_hex c zeros ∙ and_so (list_all is_hex c) (list_all is_hex zeros) digits (all_zeros (11 - length c)) in
        let last = ended (c ++ zeros) long hex (is_station_taken taken ((c ++ zeros) ++ 48 ∷ [])) refl in
        (zeros ++ last.0 ∷ [], subst (λ (l : List ℕ). fits_station taken l ≡ true) (append_assoc c zeros (last.0 ∷ [])) last.1)

-- a text that is too short is no address
short_none : (text : List ℕ) → length text < 12 → address_of text ≡ None
short_none text lt = by (length text % 2 == 1) refl
  where
    by : (t : Bool) → (length text % 2 == 1) ≡ t → address_of text ≡ None
    by true e = rw e refl
    by false e =
        let less : length text / 2 < 6 = omega (arith, lt) in
        let other : (length text / 2 == 6) ≡ false = grind (arith, nat_tests) in
        rw (e, other) refl

short_free : (taken : Taken) (text : List ℕ) → length text < 12 → is_station_taken taken text ≡ false
short_free taken text lt =
    ap (λ (o : Option Addr). same_station o (address_of (codes "09002b00000f")) || same_station o (address_of taken.server)) (short_none text lt)

twelve_most : (text : List ℕ) → fits_hex (12, 12) text ≡ true → length text ≤ 12
unfolding fits_hex begins_hex
twelve_most text h =
    let parts = both (nat_le 12 (length text) && nat_eq (length text % 2) 0) (nat_le (length text) 12 && list_all is_hex text) h in
    true_le (length text) 12 (both (nat_le (length text) 12) (list_all is_hex text) parts.1).0

-- what the address of another station begins with, one may begin with
pub station_begins : (taken : Taken) (c x : List ℕ) → fits_station taken (c ++ x) ≡ true → begins_station taken c ≡ true
station_begins taken c x h =
    let parts = both (fits_hex (12, 12) (c ++ x)) (not (is_station_taken taken (c ++ x))) h in
    and_so (begins_hex (12, 12) c) (not (is_station_taken taken c)) (hex_begins 12 12 c x parts.0)
    (by (nat_lt (length c) 12) refl (twelve_most (c ++ x) parts.0) parts.1)
  where
    by : (t : Bool) → nat_lt (length c) 12 ≡ t → length (c ++ x) ≤ 12 → not (is_station_taken taken (c ++ x)) ≡ true → not (is_station_taken taken c) ≡ true
    by true e few free = ap not (short_free taken c (true_lt (length c) 12 e))
    by false e few free =
        let past = false_lt (length c) 12 e in
        let none : length x ≡ 0 = omega (arith, past, few, length-append c x) in
        let all : c ++ x ≡ c = ap (λ (l : List ℕ). c ++ l) (nil_from_length x none) ∙ append-nil c in
        ap (λ (l : List ℕ). not (is_station_taken taken l)) (sym all) ∙ free
