-- Bytes that hex digits write.
use Rattle.std.proofs.Common.{◌≡◌, ◌≢◌, ℕ, ◌+◌, ◌-◌, ◌%◌, ◌≤◌, true, List, [], ◌∷◌, ◌++◌, length, drop, slice_index, refl, sym, ap, ◌∙◌, arith}
use Rattle.std.specs.Prelude.{Option, Some, None, Result, Ok, Err, replicate, nat_le, option_map, option_and_then, ◌==◌}
use Rattle.std.specs.Result.{result_ok}
use Rattle.std.proofs.lemmas.List.{drop-replicate, append_assoc, append-nil}
use Rattle.std.proofs.lemmas.Bool.Decides.{nat_tests}
use Rattle.hex.specs.Hex.{hex_digit_value, decode_of, decode_sized, decode_pairs}
use Rattle.hex.specs.declared.error.FromHexError.{FromHexError}
use Rattle.hex.proofs.HexLemmas.{decode_of-even, decode_of-ok, decode_sized-ok, decode_sized-twice}
use Rattle.lat_text.specs.Digits.{byte_of, bytes_of, mask_of}

-- a mask of less than 32 bytes goes on with zeros
pub mask_is : (text out : List ℕ) (n : ℕ) → 2 ≤ length text → length text ≤ 64 → decode_sized text n ≡ Ok out → Some (out ++ drop n (replicate 32 0)) ≡ mask_of text
mask_is text out n least most read =
    let twice = decode_sized-ok text n out read in
    let decoded : decode_of text ≡ Ok out = sym (decode_sized-twice text n twice) ∙ read in
    let long = (decode_of-ok text out decoded).2 in
    let same : length out ≡ n = omega (arith, twice, long) in
    let above : nat_le 2 (length text) ≡ true = grind (arith, nat_tests) in
    let below : nat_le (length text) 64 ≡ true = grind (arith, nat_tests) in
    let rest : drop n (replicate 32 0) ≡ replicate (32 - length out) 0 = drop-replicate n 32 0 ∙ ap (λ k. replicate (32 - k) 0) (sym same) in
    rw (above, below, decoded) (ap (λ zeros. Some (out ++ zeros)) rest)

-- the bytes of pairs of digits; None where a byte is no digit, or one digit is over
unfoldable pub pairs_of : List ℕ → Option (List ℕ)
pairs_of [] = Some []
pairs_of (digit ∷ []) = None
pairs_of (high ∷ low ∷ rest) = option_and_then (λ byte. option_map (λ bytes. byte ∷ bytes) (pairs_of rest)) (byte_of high low)

-- pairs read as `hex` reads them, but for its errors
read_by : (i high low : ℕ) (rest : List ℕ) → result_ok (decode_pairs (i + 2) rest) ≡ pairs_of rest → result_ok (decode_pairs i (high ∷ low ∷ rest)) ≡ pairs_of (high ∷ low ∷ rest)
unfolding decode_pairs pairs_of
read_by i high low rest same = by (hex_digit_value high) refl (hex_digit_value low) refl (decode_pairs (i + 2) rest) refl
  where
    by : (a : Option ℕ) → hex_digit_value high ≡ a → (b : Option ℕ) → hex_digit_value low ≡ b → (r : Result (List ℕ) FromHexError) → decode_pairs (i + 2) rest ≡ r
        → result_ok (decode_pairs i (high ∷ low ∷ rest)) ≡ pairs_of (high ∷ low ∷ rest)
    by None ea b eb r er = rw ea refl
    by (Some h) ea None eb r er = rw (ea, eb) refl
    by (Some h) ea (Some l) eb (Ok bytes) er =
        let read : Some bytes ≡ pairs_of rest = rw er at same in
        rw (ea, eb, er, ← read) refl
    by (Some h) ea (Some l) eb (Err e) er =
        let read : None ≡ pairs_of rest = rw er at same in
        rw (ea, eb, er, ← read) refl

pub pairs_read : (i : ℕ) (text : List ℕ) → result_ok (decode_pairs i text) ≡ pairs_of text
unfolding decode_pairs pairs_of
pairs_read i [] = refl
pairs_read i (digit ∷ []) = refl
pairs_read i (high ∷ low ∷ rest) = read_by i high low rest (pairs_read (i + 2) rest)

-- what is read of an even number of digits
pub even_read : (text : List ℕ) → length text % 2 ≡ 0 → result_ok (decode_of text) ≡ pairs_of text
even_read text even = ap result_ok (decode_of-even text even) ∙ pairs_read 0 text

-- and of an odd number
pub odd_read : (text : List ℕ) → length text % 2 ≢ 0 → result_ok (decode_of text) ≡ None
odd_read text odd =
    let one : (length text % 2 == 1) ≡ true = grind (arith, nat_tests) in
    rw one refl

-- these bytes, and behind them what is read of the rest
unfoldable pub onto : List ℕ → Option (List ℕ) → Option (List ℕ)
onto bytes rest = option_map (λ more. bytes ++ more) rest

-- two digits more are read
pub pair_read : (bytes pair rest : List ℕ) (byte : ℕ) → length pair ≡ 2 → byte_of (slice_index pair 0) (slice_index pair 1) ≡ Some byte
    → onto bytes (pairs_of (pair ++ rest)) ≡ onto (bytes ++ byte ∷ []) (pairs_of rest)
unfolding pairs_of onto
pair_read bytes [] rest byte two is = absurd (omega (arith, two))
pair_read bytes (high ∷ []) rest byte two is = absurd (omega (arith, two))
pair_read bytes (high ∷ low ∷ []) rest byte two is = rw is (by (pairs_of rest))
  where
    by : (more : Option (List ℕ)) → option_map (λ m. bytes ++ m) (option_map (λ m. byte ∷ m) more) ≡ option_map (λ m. (bytes ++ byte ∷ []) ++ m) more
    by None = refl
    by (Some m) = ap Some (sym (append_assoc bytes (byte ∷ []) m))
pair_read bytes (high ∷ low ∷ more ∷ others) rest byte two is = absurd (omega (arith, two))

-- two bytes that aren't both digits
pub pair_bad : (bytes pair rest : List ℕ) → length pair ≡ 2 → byte_of (slice_index pair 0) (slice_index pair 1) ≡ None
    → onto bytes (pairs_of (pair ++ rest)) ≡ None
unfolding pairs_of onto
pair_bad bytes [] rest two is = absurd (omega (arith, two))
pair_bad bytes (high ∷ []) rest two is = absurd (omega (arith, two))
pair_bad bytes (high ∷ low ∷ []) rest two is = rw is refl
pair_bad bytes (high ∷ low ∷ more ∷ others) rest two is = absurd (omega (arith, two))

-- nothing is left
pub none_left : (bytes rest : List ℕ) → length rest ≡ 0 → onto bytes (pairs_of rest) ≡ Some bytes
unfolding pairs_of onto
none_left bytes [] none = ap Some (append-nil bytes)
none_left bytes (b ∷ rest) none = absurd (omega (arith, none))

pub none_read : (text : List ℕ) → onto [] (pairs_of text) ≡ pairs_of text
unfolding onto
none_read text = by (pairs_of text)
  where
    by : (read : Option (List ℕ)) → option_map (λ m. [] ++ m) read ≡ read
    by None = refl
    by (Some m) = refl

-- what is read of digits whose number is even and within its bounds
pub bytes_are : (least most : ℕ) (text : List ℕ) → least ≤ length text → length text ≤ most → length text % 2 ≡ 0 → bytes_of least most text ≡ pairs_of text
bytes_are least most text low high even =
    let above : nat_le least (length text) ≡ true = grind (arith, nat_tests) in
    let below : nat_le (length text) most ≡ true = grind (arith, nat_tests) in
    rw (above, below) (even_read text even)
