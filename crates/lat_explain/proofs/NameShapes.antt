-- Names as they are written, byte by byte, and what they begin with.
use Rattle.std.proofs.Common.{◌≡◌, ℕ, zero, suc, ◌+◌, ◌-◌, ◌*◌, ◌<◌, ◌≤◌, Bool, true, false, List, [], ◌∷◌, ◌++◌, length, append_assoc, append-nil, refl, sym, ap, ◌∙◌, subst, arith, length-append}
use Rattle.std.specs.Prelude.{Option, Some, None, Result, Ok, Err, is_some, is_ok, option_map, option_and_then, nat_le, nat_eq, ◌==◌, ◌&&◌, ◌||◌, if◌then◌else◌}
use Rattle.std.specs.List.{list_all}
use Rattle.std.specs.Result.{result_ok}
use Rattle.std.proofs.lemmas.List.Folds.{list_all-append}
use Rattle.std.proofs.lemmas.Bool.Decides.{nat_tests}
use Rattle.hex.specs.Hex.{hex_digit_value}
use Rattle.lat_base.specs.Names.{IsName, name_byte, name_read}
use Rattle.lat_base.specs.declared.name.NameFault.{NameFault}
use Rattle.lat_base.proofs.NameLemmas.{name_reads, name_is}
use Rattle.lat_text.specs.Digits.{byte_of}
use Rattle.lat_text.specs.NameText.{is_plain}
use Rattle.lat_text.specs.NameWritten.{name_of, percent, first_byte, escaped, unless_plain, bytes_written}
use Rattle.lat_explain.specs.Forms.{behind_byte, behind_digits, begins_byte, begins_digits, begins_name, is_escaped}
use Rattle.lat_explain.proofs.Tests.{both, and_so, or_so, or_here, not_zero, true_le, le_true, false_true}

pub some_same : {A : Type 0} (x y : A) → Some x ≡ Some y → x ≡ y
some_same x y h = cc

pub none_some : {A : Type 0} {P : Type 0} (y : A) → None ≡ Some y → P
none_some y h = absurd (let no : None ≡ Some y = h in cc)

-- the text of one byte of a name
pub record Piece (piece : List ℕ) (byte : ℕ) : Type 0 where
  pub named : name_byte byte ≡ true
  pub first : (t : List ℕ) → first_byte (piece ++ t) ≡ Some (byte, t)
  pub behind : (t : List ℕ) → behind_byte (piece ++ t) ≡ Some t
  pub some : 0 < length piece
  pub long : length piece ≤ 3

plain_named : (b : ℕ) → is_plain b ≡ true → name_byte b ≡ true
plain_named b h = grind (arith, nat_tests)

pub plain_piece : (b : ℕ) → is_plain b ≡ true → Piece (b ∷ []) b
plain_piece b h = record {
  named = plain_named b h;
  first = λ t. rw h refl;
  behind = λ t. rw h refl;
  some = omega arith;
  long = omega arith;
}

escaped_named : (v : ℕ) → is_escaped (Some v) ≡ true → name_byte v ≡ true
escaped_named v h = grind (arith, nat_tests)

escaped_other : (v : ℕ) → is_escaped (Some v) ≡ true → is_plain v ≡ false
escaped_other v h = grind (arith, nat_tests)

pub named_escaped : (v : ℕ) → is_plain v ≡ false → name_byte v ≡ true → is_escaped (Some v) ≡ true
named_escaped v h k = grind (arith, nat_tests)

escaped_first : (high low v : ℕ) (t : List ℕ) → byte_of high low ≡ Some v → is_plain v ≡ false → escaped (high ∷ low ∷ t) ≡ Some (v, t)
escaped_first high low v t e other =
    ap (λ (o : Option ℕ). option_map (λ (b : ℕ). (b, t)) (option_and_then unless_plain o)) e
    ∙ ap (λ (p : Bool). option_map (λ (b : ℕ). (b, t)) (if p then None else Some v)) other

escaped_behind : (high low v : ℕ) (t : List ℕ) → byte_of high low ≡ Some v → is_escaped (Some v) ≡ true → behind_digits (high ∷ low ∷ t) ≡ Some t
escaped_behind high low v t e so =
    ap (λ (o : Option ℕ). if is_escaped o then Some t else None) e ∙ ap (λ (p : Bool). if p then Some t else None) so

pub escaped_piece : (high low v : ℕ) → byte_of high low ≡ Some v → is_escaped (Some v) ≡ true → Piece (37 ∷ high ∷ low ∷ []) v
escaped_piece high low v e so = record {
  named = escaped_named v so;
  first = λ t. escaped_first high low v t e (escaped_other v so);
  behind = λ t. escaped_behind high low v t e so;
  some = omega arith;
  long = omega arith;
}

-- the byte of two digits
pub byte_from : (high low h l : ℕ) → hex_digit_value high ≡ Some h → hex_digit_value low ≡ Some l → byte_of high low ≡ Some (h * 16 + l)
byte_from high low h l eh el =
    ap (λ (o : Option ℕ). option_and_then (λ (x : ℕ). option_map (λ (y : ℕ). x * 16 + y) (hex_digit_value low)) o) eh
    ∙ ap (λ (o : Option ℕ). option_map (λ (y : ℕ). h * 16 + y) o) el

-- the first byte of a text
record OneByte (c rest : List ℕ) : Type 0 where
  pub piece : List ℕ
  pub byte : ℕ
  pub is : c ≡ piece ++ rest
  pub of : Piece piece byte

is_percent : (b : ℕ) → (b == percent) ≡ true → b ≡ 37
is_percent b h = grind (arith, nat_tests)

digits_found : (b : ℕ) (text rest : List ℕ) → b ≡ 37 → behind_digits text ≡ Some rest → OneByte (b ∷ text) rest
digits_found b [] rest is h = none_some rest h
digits_found b (high ∷ []) rest is h = none_some rest h
digits_found b (high ∷ low ∷ text) rest is h = by (byte_of high low) refl h
  where
    so : (v : ℕ) → byte_of high low ≡ Some v → (p : Bool) → is_escaped (Some v) ≡ p → (if p then Some text else None) ≡ Some rest → OneByte (b ∷ high ∷ low ∷ text) rest
    so v e true ep k = record {
      piece = 37 ∷ high ∷ low ∷ [];
      byte = v;
      is = ap (λ (x : ℕ). x ∷ high ∷ low ∷ text) is ∙ ap (λ (t : List ℕ). 37 ∷ high ∷ low ∷ t) (some_same text rest k);
      of = escaped_piece high low v e ep;
    }
    so v e false ep k = none_some rest k

    by : (o : Option ℕ) → byte_of high low ≡ o → (if is_escaped o then Some text else None) ≡ Some rest → OneByte (b ∷ high ∷ low ∷ text) rest
    by None e k = none_some rest k
    by (Some v) e k = so v e (is_escaped (Some v)) refl k

byte_found : (c rest : List ℕ) → behind_byte c ≡ Some rest → OneByte c rest
byte_found [] rest h = none_some rest h
byte_found (b ∷ text) rest h = by (is_plain b) refl (b == percent) refl h
  where
    by : (p : Bool) → is_plain b ≡ p → (q : Bool) → (b == percent) ≡ q → (if p then Some text else if q then behind_digits text else None) ≡ Some rest → OneByte (b ∷ text) rest
    by true ep q eq k = record { piece = b ∷ []; byte = b; is = ap (λ (t : List ℕ). b ∷ t) (some_same text rest k); of = plain_piece b ep }
    by false ep true eq k = digits_found b text rest (is_percent b eq) k
    by false ep false eq k = none_some rest k

-- with more text behind it, a text has the same first byte
behind_more : (c rest x : List ℕ) → behind_byte c ≡ Some rest → behind_byte (c ++ x) ≡ Some (rest ++ x)
behind_more c rest x h =
    let one = byte_found c rest h in
    ap behind_byte (ap (λ (t : List ℕ). t ++ x) one.is ∙ append_assoc one.piece rest x) ∙ one.of.behind (rest ++ x)

-- how a name begins, byte by byte

pub more_on : (most : ℕ) (c rest : List ℕ) → behind_byte c ≡ Some rest → begins_name (suc most) c ≡ begins_name most rest
unfolding begins_name
more_on most c rest is =
    subst (λ (o : Option (List ℕ)). elim o [ None ↦ begins_digits c | Some b ↦ begins_name most b ] ≡ begins_name most rest) (sym is) refl

pub none_on : (most : ℕ) (c : List ℕ) → behind_byte c ≡ None → begins_name (suc most) c ≡ begins_digits c
unfolding begins_name
none_on most c is =
    subst (λ (o : Option (List ℕ)). elim o [ None ↦ begins_digits c | Some b ↦ begins_name most b ] ≡ begins_digits c) (sym is) refl

pub none_left : (c : List ℕ) → begins_name zero c ≡ nat_eq (length c) 0
unfolding begins_name
none_left c = refl

pub nothing_begins : (most : ℕ) → begins_name most [] ≡ true
nothing_begins zero = none_left []
nothing_begins (suc most) = none_on most [] refl

-- the bytes that some text writes
pub record Wrote (w n : List ℕ) : Type 0 where
  pub each : list_all name_byte n ≡ true
  pub reads : (most : ℕ) (t : List ℕ) → bytes_written (length n + most) (w ++ t) ≡ option_map (λ (m : List ℕ). n ++ m) (bytes_written most t)
  pub begins : (most : ℕ) (t : List ℕ) → begins_name (length n + most) (w ++ t) ≡ begins_name most t
  pub long : length w ≤ 3 * length n

mapped_none : (o : Option (List ℕ)) → o ≡ option_map (λ (m : List ℕ). [] ++ m) o
mapped_none None = refl
mapped_none (Some m) = refl

wrote_none : Wrote [] []
wrote_none = record {
  each = refl;
  reads = λ most t. let same : 0 + most ≡ most = omega arith in ap (λ (k : ℕ). bytes_written k t) same ∙ mapped_none (bytes_written most t);
  begins = λ most t. let same : 0 + most ≡ most = omega arith in ap (λ (k : ℕ). begins_name k t) same;
  long = omega arith;
}

-- one byte more is read
pub one_read : (piece : List ℕ) (byte : ℕ) (k : ℕ) (t : List ℕ) → Piece piece byte → bytes_written (suc k) (piece ++ t) ≡ option_map (λ (m : List ℕ). byte ∷ m) (bytes_written k t)
one_read [] byte k t of = let some = of.some in absurd (omega (arith, some))
one_read (p ∷ piece) byte k t of = ap (option_and_then (λ (first : ℕ × List ℕ). option_map (λ (bytes : List ℕ). first.0 ∷ bytes) (bytes_written k first.1))) (of.first t)

mapped_twice : (byte : ℕ) (n : List ℕ) (o : Option (List ℕ)) → option_map (λ (m : List ℕ). byte ∷ m) (option_map (λ (m : List ℕ). n ++ m) o) ≡ option_map (λ (m : List ℕ). byte ∷ (n ++ m)) o
mapped_twice byte n None = refl
mapped_twice byte n (Some m) = refl

wrote_more : (piece : List ℕ) (byte : ℕ) (w n : List ℕ) → Piece piece byte → Wrote w n → Wrote (piece ++ w) (byte ∷ n)
wrote_more piece byte w n of wrote =
    let few = of.long in
    let long = wrote.long in
    record {
      each = and_so (name_byte byte) (list_all name_byte n) of.named wrote.each;
      reads = λ most t.
          let sum : length (byte ∷ n) + most ≡ suc (length n + most) = omega arith in
          ap (λ (k : ℕ). bytes_written k ((piece ++ w) ++ t)) sum ∙ ap (bytes_written (suc (length n + most))) (append_assoc piece w t)
          ∙ one_read piece byte (length n + most) (w ++ t) of ∙ ap (option_map (λ (m : List ℕ). byte ∷ m)) (wrote.reads most t) ∙ mapped_twice byte n (bytes_written most t);
      begins = λ most t.
          let sum : length (byte ∷ n) + most ≡ suc (length n + most) = omega arith in
          ap (λ (k : ℕ). begins_name k ((piece ++ w) ++ t)) sum ∙ ap (begins_name (suc (length n + most))) (append_assoc piece w t)
          ∙ more_on (length n + most) (piece ++ (w ++ t)) (w ++ t) (of.behind (w ++ t)) ∙ wrote.begins most t;
      long = omega (arith, few, long, length-append piece w);
    }

-- what begins a name of so many bytes at most writes some of them, and maybe a part of one more
pub data Shape (most : ℕ) (c : List ℕ) : Type 0 where
  Whole : (n : List ℕ) → Wrote c n → length n ≤ most → Shape most c
  Sign : (w n : List ℕ) → Wrote w n → c ≡ w ++ 37 ∷ [] → length n < most → Shape most c
  Digit : (w n : List ℕ) (d : ℕ) → Wrote w n → c ≡ w ++ 37 ∷ d ∷ [] → begins_byte d ≡ true → length n < most → Shape most c

part_shape : (most : ℕ) (c : List ℕ) → begins_digits c ≡ true → Shape (suc most) c
part_shape most [] h = Whole [] wrote_none (omega arith)
part_shape most (b ∷ []) h = Sign [] [] wrote_none (ap (λ (x : ℕ). x ∷ []) (is_percent b h)) (omega arith)
part_shape most (b ∷ d ∷ []) h =
    let parts = both (b == percent) (begins_byte d) h in
    Digit [] [] d wrote_none (ap (λ (x : ℕ). x ∷ d ∷ []) (is_percent b parts.0)) parts.1 (omega arith)
part_shape most (b ∷ d ∷ e ∷ c) h = false_true h

more_shape : (most : ℕ) (c rest : List ℕ) → OneByte c rest → Shape most rest → Shape (suc most) c
more_shape most c rest one (Whole n wrote le) =
    Whole (one.byte ∷ n) (subst (λ (l : List ℕ). Wrote l (one.byte ∷ n)) (sym one.is) (wrote_more one.piece one.byte rest n one.of wrote)) (omega (arith, le))
more_shape most c rest one (Sign w n wrote is lt) =
    Sign (one.piece ++ w) (one.byte ∷ n) (wrote_more one.piece one.byte w n one.of wrote)
    (one.is ∙ ap (λ (l : List ℕ). one.piece ++ l) is ∙ sym (append_assoc one.piece w (37 ∷ []))) (omega (arith, lt))
more_shape most c rest one (Digit w n d wrote is begun lt) =
    Digit (one.piece ++ w) (one.byte ∷ n) d (wrote_more one.piece one.byte w n one.of wrote)
    (one.is ∙ ap (λ (l : List ℕ). one.piece ++ l) is ∙ sym (append_assoc one.piece w (37 ∷ d ∷ []))) begun (omega (arith, lt))

pub shape : (most : ℕ) (c : List ℕ) → begins_name most c ≡ true → Shape most c
shape zero [] h = Whole [] wrote_none (omega arith)
shape zero (b ∷ c) h = false_true (sym (none_left (b ∷ c) ∙ not_zero (length (b ∷ c)) (omega arith)) ∙ h)
shape (suc most) c h = by (behind_byte c) refl (shape most)
  where
    by : (o : Option (List ℕ)) → behind_byte c ≡ o → ((rest : List ℕ) → begins_name most rest ≡ true → Shape most rest) → Shape (suc most) c
    by None e more = part_shape most c (sym (none_on most c e) ∙ h)
    by (Some rest) e more = more_shape most c rest (byte_found c rest e) (more rest (sym (more_on most c rest e) ∙ h))

-- what a text writes is a name
pub name_from : (w n t m : List ℕ) (k : ℕ) → Wrote w n → length n + k ≡ 16 → bytes_written k t ≡ Some m → IsName (n ++ m) → name_of (w ++ t) ≡ Some (n ++ m)
name_from w n t m k wrote sum read is =
    ap (option_and_then (λ (bytes : List ℕ). result_ok (name_read bytes)))
    (ap (λ (j : ℕ). bytes_written j (w ++ t)) (sym sum) ∙ wrote.reads k t ∙ ap (option_map (λ (bytes : List ℕ). n ++ bytes)) read)
    ∙ ap result_ok (name_reads (n ++ m) is)

pub is_name : (n m : List ℕ) → list_all name_byte n ≡ true → list_all name_byte m ≡ true → 0 < length n + length m → length n + length m ≤ 16 → IsName (n ++ m)
is_name n m one two some most = record {
  some = omega (arith, some, length-append n m);
  most = omega (arith, most, length-append n m);
  each = list_all-append name_byte n m ∙ and_so (list_all name_byte n) (list_all name_byte m) one two;
}

-- of a name: its bytes, as they are written
pub record IsWritten (w m : List ℕ) : Type 0 where
  pub is : IsName m
  pub read : bytes_written 16 w ≡ Some m

pub name_written : (w m : List ℕ) → name_of w ≡ Some m → IsWritten w m
name_written w m h = by (bytes_written 16 w) refl h
  where
    so : (bytes : List ℕ) → bytes_written 16 w ≡ Some bytes → (r : Result (List ℕ) NameFault) → name_read bytes ≡ r → result_ok r ≡ Some m → IsWritten w m
    so bytes e (Err fault) er k = none_some m k
    so bytes e (Ok name) er k =
        let is = name_is bytes (ap is_ok er) in
        let same : Some bytes ≡ Some m = ap result_ok (sym (name_reads bytes is)) ∙ ap result_ok er ∙ k in
        let bytes_same = some_same bytes m same in
        record { is = subst IsName bytes_same is; read = e ∙ same }

    by : (o : Option (List ℕ)) → bytes_written 16 w ≡ o → option_and_then (λ (bytes : List ℕ). result_ok (name_read bytes)) o ≡ Some m → IsWritten w m
    by None e k = none_some m k
    by (Some bytes) e k = so bytes e (name_read bytes) refl k

-- the second digit of a byte whose first one stands there
pub record LastDigit (d : ℕ) : Type 0 where
  pub digit : ℕ
  pub value : ℕ
  pub is : byte_of d digit ≡ Some value
  pub so : is_escaped (Some value) ≡ true

letter_value : (d : ℕ) → ((nat_le 97 d && nat_le d 102) || (nat_le 65 d && nat_le d 70)) ≡ true → (v : ℕ) × (hex_digit_value d ≡ Some v) × (10 ≤ v) × (v ≤ 15)
letter_value d h = by (nat_le 65 d && nat_le d 70) refl (nat_le 97 d && nat_le d 102) refl
  where
    by : (p : Bool) → (nat_le 65 d && nat_le d 70) ≡ p → (q : Bool) → (nat_le 97 d && nat_le d 102) ≡ q → (v : ℕ) × (hex_digit_value d ≡ Some v) × (10 ≤ v) × (v ≤ 15)
    by true ep q eq =
        let parts = both (nat_le 65 d) (nat_le d 70) ep in
        let low = true_le 65 d parts.0 in
        let high = true_le d 70 parts.1 in
        (d - 55, rw ep refl, omega (arith, low, high), omega (arith, low, high))
    by false ep true eq =
        let parts = both (nat_le 97 d) (nat_le d 102) eq in
        let low = true_le 97 d parts.0 in
        let high = true_le d 102 parts.1 in
        (d - 87, rw (ep, eq) refl, omega (arith, low, high), omega (arith, low, high))
    by false ep false eq = let no : (false || false) ≡ true = rw (eq, ep) at h in false_true no

high_escaped : (v : ℕ) → 10 ≤ v → v ≤ 15 → is_escaped (Some (v * 16 + 1)) ≡ true
high_escaped v low high = or_so (v * 16 + 1 == percent) (nat_le 0xa1 (v * 16 + 1) && nat_le (v * 16 + 1) 0xfe)
    (and_so (nat_le 0xa1 (v * 16 + 1)) (nat_le (v * 16 + 1) 0xfe) (le_true 0xa1 (v * 16 + 1) (omega (arith, low))) (le_true (v * 16 + 1) 0xfe (omega (arith, high))))

pub last_digit : (d : ℕ) → begins_byte d ≡ true → LastDigit d
last_digit d h = by (d == 50) refl h
  where
    by : (p : Bool) → (d == 50) ≡ p → (p || ((nat_le 97 d && nat_le d 102) || (nat_le 65 d && nat_le d 70))) ≡ true → LastDigit d
    by true e k =
        let two : d ≡ 50 = grind (arith, nat_tests) in
        record { digit = 53; value = 37; is = ap (λ (x : ℕ). byte_of x 53) two; so = refl }
    by false e k =
        let v = letter_value d k in
        record {
          digit = 49;
          value = v.0 * 16 + 1;
          is = ap (λ (o : Option ℕ). option_and_then (λ (h : ℕ). option_map (λ (l : ℕ). h * 16 + l) (hex_digit_value 49)) o) v.1;
          so = high_escaped v.0 v.2 v.3;
        }

-- the last byte of a name, with its digits
pub last_read : (piece : List ℕ) (byte k : ℕ) → Piece piece byte → bytes_written (suc k) piece ≡ Some (byte ∷ [])
last_read piece byte k of = ap (bytes_written (suc k)) (sym (append-nil piece)) ∙ one_read piece byte k [] of ∙ written_none k
  where
    written_none : (k : ℕ) → option_map (λ (m : List ℕ). byte ∷ m) (bytes_written k []) ≡ Some (byte ∷ [])
    written_none zero = refl
    written_none (suc k) = refl

pub nothing_read : (k : ℕ) → bytes_written k [] ≡ Some []
nothing_read zero = refl
nothing_read (suc k) = refl

pub one_named : (b : ℕ) → name_byte b ≡ true → list_all name_byte (b ∷ []) ≡ true
one_named b h = and_so (name_byte b) true h refl

-- what a name may begin with goes on to one
pub name_goes_on : (c : List ℕ) → begins_name 16 c ≡ true → (x : List ℕ) × (is_some (name_of (c ++ x)) ≡ true)
name_goes_on c h = by (shape 16 c h)
  where
    sign : (w n : List ℕ) → Wrote w n → c ≡ w ++ 37 ∷ [] → length n < 16 → (x : List ℕ) × (is_some (name_of (c ++ x)) ≡ true)
    sign w n wrote is lt =
        let k : length n + suc (15 - length n) ≡ 16 = omega (arith, lt) in
        let of = escaped_piece 50 53 37 refl refl in
        let named = name_from w n (37 ∷ 50 ∷ 53 ∷ []) (37 ∷ []) (suc (15 - length n)) wrote k (last_read (37 ∷ 50 ∷ 53 ∷ []) 37 (15 - length n) of)
        (is_name n (37 ∷ []) wrote.each refl (omega arith) (omega (arith, lt))) in
        (50 ∷ 53 ∷ [], ap (λ (l : List ℕ). is_some (name_of l)) (ap (λ (l : List ℕ). l ++ 50 ∷ 53 ∷ []) is ∙ append_assoc w (37 ∷ []) (50 ∷ 53 ∷ [])) ∙ ap is_some named)

    digit : (w n : List ℕ) (d : ℕ) → Wrote w n → c ≡ w ++ 37 ∷ d ∷ [] → LastDigit d → length n < 16 → (x : List ℕ) × (is_some (name_of (c ++ x)) ≡ true)
    digit w n d wrote is last lt =
        let k : length n + suc (15 - length n) ≡ 16 = omega (arith, lt) in
        let of = escaped_piece d last.digit last.value last.is last.so in
        let named = name_from w n (37 ∷ d ∷ last.digit ∷ []) (last.value ∷ []) (suc (15 - length n)) wrote k (last_read (37 ∷ d ∷ last.digit ∷ []) last.value (15 - length n) of)
        (is_name n (last.value ∷ []) wrote.each (one_named last.value of.named) (omega arith) (omega (arith, lt))) in
        (last.digit ∷ [], ap (λ (l : List ℕ). is_some (name_of l)) (ap (λ (l : List ℕ). l ++ last.digit ∷ []) is ∙ append_assoc w (37 ∷ d ∷ []) (last.digit ∷ [])) ∙ ap is_some named)

    whole : (n : List ℕ) → Wrote c n → length n ≤ 16 → (x : List ℕ) × (is_some (name_of (c ++ x)) ≡ true)
    whole [] wrote le =
        let named = name_from c [] (65 ∷ []) (65 ∷ []) 16 wrote (omega arith) refl (is_name [] (65 ∷ []) refl refl (omega arith) (omega arith)) in
        (65 ∷ [], ap is_some named)
    whole (b ∷ n) wrote le =
        let k : length (b ∷ n) + (16 - length (b ∷ n)) ≡ 16 = omega (arith, le) in
        let named = name_from c (b ∷ n) [] [] (16 - length (b ∷ n)) wrote k (nothing_read (16 - length (b ∷ n))) (is_name (b ∷ n) [] wrote.each refl (omega arith) (omega (arith, le))) in
        ([], ap is_some named)

    by : Shape 16 c → (x : List ℕ) × (is_some (name_of (c ++ x)) ≡ true)
    by (Whole n wrote le) = whole n wrote le
    by (Sign w n wrote is lt) = sign w n wrote is lt
    by (Digit w n d wrote is begun lt) = digit w n d wrote is (last_digit d begun) lt

-- what a name begins with, one may begin with

digits_back : (text : List ℕ) (v : ℕ) (rest : List ℕ) → escaped text ≡ Some (v, rest) → name_byte v ≡ true → behind_digits text ≡ Some rest
digits_back [] v rest h named = none_some (v, rest) h
digits_back (high ∷ []) v rest h named = none_some (v, rest) h
digits_back (high ∷ low ∷ text) v rest h named = by (byte_of high low) refl h
  where
    so : (u : ℕ) → byte_of high low ≡ Some u → (p : Bool) → is_plain u ≡ p → option_map {U = ℕ × List ℕ} (λ (b : ℕ). (b, text)) (if p then None else Some u) ≡ Some (v, rest)
        → behind_digits (high ∷ low ∷ text) ≡ Some rest
    so u e true ep k = none_some (v, rest) k
    so u e false ep k =
        let same = some_same (u, text) (v, rest) k in
        let byte : u ≡ v = ap (λ (p : ℕ × List ℕ). p.0) same in
        let behind : text ≡ rest = ap (λ (p : ℕ × List ℕ). p.1) same in
        escaped_behind high low u text e (named_escaped u ep (ap name_byte byte ∙ named)) ∙ ap Some behind

    by : (o : Option ℕ) → byte_of high low ≡ o → option_map {U = ℕ × List ℕ} (λ (b : ℕ). (b, text)) (option_and_then unless_plain o) ≡ Some (v, rest) → behind_digits (high ∷ low ∷ text) ≡ Some rest
    by None e k = none_some (v, rest) k
    by (Some u) e k = so u e (is_plain u) refl k

byte_back : (w : List ℕ) (v : ℕ) (rest : List ℕ) → first_byte w ≡ Some (v, rest) → name_byte v ≡ true → behind_byte w ≡ Some rest
byte_back [] v rest h named = none_some (v, rest) h
byte_back (b ∷ text) v rest h named = by (is_plain b) refl (b == percent) refl h
  where
    by : (p : Bool) → is_plain b ≡ p → (q : Bool) → (b == percent) ≡ q → (if p then Some (b, text) else if q then escaped text else None) ≡ Some (v, rest)
        → (if is_plain b then Some text else if b == percent then behind_digits text else None) ≡ Some rest
    by true ep q eq k =
        let behind : text ≡ rest = ap (λ (p : ℕ × List ℕ). p.1) (some_same (b, text) (v, rest) k) in
        rw ep (ap Some behind)
    by false ep true eq k = rw (ep, eq) (digits_back text v rest k named)
    by false ep false eq k = none_some (v, rest) k

digit_two : (d h : ℕ) → hex_digit_value d ≡ Some h → h ≡ 2 → (d == 50) ≡ true
digit_two d h is two = grind (arith, nat_tests)

digit_high : (d h : ℕ) → hex_digit_value d ≡ Some h → 10 ≤ h → ((nat_le 97 d && nat_le d 102) || (nat_le 65 d && nat_le d 70)) ≡ true
digit_high d h is high = grind (arith, nat_tests)

pub digit_below : (d h : ℕ) → hex_digit_value d ≡ Some h → h < 16
digit_below d h is = grind (arith, nat_tests)

-- the first digit of an escaped byte
escaped_begins : (d e : ℕ) → is_escaped (byte_of d e) ≡ true → begins_byte d ≡ true
escaped_begins d e so = by (hex_digit_value d) refl (hex_digit_value e) refl so
  where
    which : (h l : ℕ) → hex_digit_value d ≡ Some h → l < 16 → (p : Bool) → (h * 16 + l == percent) ≡ p
        → (p || (nat_le 0xa1 (h * 16 + l) && nat_le (h * 16 + l) 0xfe)) ≡ true → begins_byte d ≡ true
    which h l eh small true e k =
        let is = is_percent (h * 16 + l) e in
        or_here (d == 50) ((nat_le 97 d && nat_le d 102) || (nat_le 65 d && nat_le d 70)) (digit_two d h eh (omega (arith, is, small)))
    which h l eh small false e k =
        let low = true_le 0xa1 (h * 16 + l) (both (nat_le 0xa1 (h * 16 + l)) (nat_le (h * 16 + l) 0xfe) k).0 in
        or_so (d == 50) ((nat_le 97 d && nat_le d 102) || (nat_le 65 d && nat_le d 70)) (digit_high d h eh (omega (arith, low, small)))

    by : (a : Option ℕ) → hex_digit_value d ≡ a → (b : Option ℕ) → hex_digit_value e ≡ b
        → is_escaped (option_and_then (λ (h : ℕ). option_map (λ (l : ℕ). h * 16 + l) b) a) ≡ true → begins_byte d ≡ true
    by None ea b eb k = false_true k
    by (Some h) ea None eb k = false_true k
    by (Some h) ea (Some l) eb k = which h l ea (digit_below e l eb) (h * 16 + l == percent) refl k

part_begins : (b : ℕ) (c x rest : List ℕ) → behind_byte (b ∷ c) ≡ None → behind_byte (b ∷ (c ++ x)) ≡ Some rest → begins_digits (b ∷ c) ≡ true
part_begins b c x rest none some = by (is_plain b) refl (b == percent) refl none some
  where
    digits : (c x : List ℕ) → (b == percent) ≡ true → behind_digits c ≡ None → behind_digits (c ++ x) ≡ Some rest → begins_digits (b ∷ c) ≡ true
    digits [] x eq none some = eq
    digits (d ∷ []) [] eq none some = none_some rest some
    digits (d ∷ []) (e ∷ x) eq none some = so (is_escaped (byte_of d e)) refl some
      where
        so : (p : Bool) → is_escaped (byte_of d e) ≡ p → (if p then Some x else None) ≡ Some rest → ((b == percent) && begins_byte d) ≡ true
        so true ep k = and_so (b == percent) (begins_byte d) eq (escaped_begins d e ep)
        so false ep k = none_some rest k
    digits (d ∷ e ∷ c) x eq none some = so (is_escaped (byte_of d e)) refl none some
      where
        so : (p : Bool) → is_escaped (byte_of d e) ≡ p → (if p then Some c else None) ≡ None → (if p then Some (c ++ x) else None) ≡ Some rest → false ≡ true
        so true ep k l = none_some c (sym k)
        so false ep k l = none_some rest l

    by : (p : Bool) → is_plain b ≡ p → (q : Bool) → (b == percent) ≡ q → (if p then Some c else if q then behind_digits c else None) ≡ None
        → (if p then Some (c ++ x) else if q then behind_digits (c ++ x) else None) ≡ Some rest → begins_digits (b ∷ c) ≡ true
    by true ep q eq k l = none_some c (sym k)
    by false ep true eq k l = digits c x eq k l
    by false ep false eq k l = none_some rest l

-- the text that was read begins so
pub written_begins : (most : ℕ) (c x m : List ℕ) → bytes_written most (c ++ x) ≡ Some m → list_all name_byte m ≡ true → begins_name most c ≡ true
written_begins most [] x m h named = nothing_begins most
written_begins zero (b ∷ c) x m h named = none_some m h
written_begins (suc most) (b ∷ c) x m h named = by (first_byte (b ∷ (c ++ x))) refl h (written_begins most)
  where
    alone : (o : Option (List ℕ)) → behind_byte (b ∷ c) ≡ o → (rest m : List ℕ) → behind_byte (b ∷ (c ++ x)) ≡ Some rest → bytes_written most rest ≡ Some m → list_all name_byte m ≡ true
        → ((c x m : List ℕ) → bytes_written most (c ++ x) ≡ Some m → list_all name_byte m ≡ true → begins_name most c ≡ true) → begins_name (suc most) (b ∷ c) ≡ true
    alone None e rest m some read each more = none_on most (b ∷ c) e ∙ part_begins b c x rest e some
    alone (Some behind) e rest m some read each more =
        let same : behind ++ x ≡ rest = some_same (behind ++ x) rest (sym (behind_more (b ∷ c) behind x e) ∙ some) in
        more_on most (b ∷ c) behind e ∙ more behind x m (ap (bytes_written most) same ∙ read) each

    read : (v : ℕ) (rest : List ℕ) → first_byte (b ∷ (c ++ x)) ≡ Some (v, rest) → (o : Option (List ℕ)) → bytes_written most rest ≡ o → option_map (λ (bytes : List ℕ). v ∷ bytes) o ≡ Some m
        → ((c x m : List ℕ) → bytes_written most (c ++ x) ≡ Some m → list_all name_byte m ≡ true → begins_name most c ≡ true) → begins_name (suc most) (b ∷ c) ≡ true
    read v rest e None er k more = none_some m k
    read v rest e (Some bytes) er k more =
        let all : list_all name_byte (v ∷ bytes) ≡ true = ap (list_all name_byte) (some_same (v ∷ bytes) m k) ∙ named in
        let parts = both (name_byte v) (list_all name_byte bytes) all in
        alone (behind_byte (b ∷ c)) refl rest bytes (byte_back (b ∷ (c ++ x)) v rest e parts.0) er parts.1 more

    by : (o : Option (ℕ × List ℕ)) → first_byte (b ∷ (c ++ x)) ≡ o
        → option_and_then (λ (first : ℕ × List ℕ). option_map (λ (bytes : List ℕ). first.0 ∷ bytes) (bytes_written most first.1)) o ≡ Some m
        → ((c x m : List ℕ) → bytes_written most (c ++ x) ≡ Some m → list_all name_byte m ≡ true → begins_name most c ≡ true) → begins_name (suc most) (b ∷ c) ≡ true
    by None e k more = none_some m k
    by (Some p) e k more = read p.0 p.1 e (bytes_written most p.1) refl k more

pub name_begins : (c x : List ℕ) → is_some (name_of (c ++ x)) ≡ true → begins_name 16 c ≡ true
name_begins c x h = by (name_of (c ++ x)) refl h
  where
    by : (o : Option (List ℕ)) → name_of (c ++ x) ≡ o → is_some o ≡ true → begins_name 16 c ≡ true
    by None e k = false_true k
    by (Some m) e k =
        let w = name_written (c ++ x) m e in
        written_begins 16 c x m w.read w.is.each
