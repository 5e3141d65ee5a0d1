-- The line of a payload is read as the payload that it was written of.
use Rattle.std.proofs.Common.{◌≡◌, ℕ, suc, ◌*◌, ◌<◌, ◌≤◌, Bool, true, false, List, [], ◌∷◌, ◌++◌, length, refl, ap, append_assoc, arith, lit<}
use Rattle.std.specs.Prelude.{Some, Ok, nat_le, bytes_eq, codes}
use Rattle.std.specs.List.{AllPass}
use Rattle.std.proofs.lemmas.Bool.Decides.{nat_tests}
use Rattle.std.proofs.lemmas.Slice.Eq.{bytes_eq-Decides}
use Rattle.hex.specs.Hex.{IsBytes, is_hex_digit, encode_lower, decode_of}
use Rattle.hex.proofs.HexLemmas.{decode_of-encode_lower, decode_of-ok}
use Rattle.lat_text.specs.HexText.{hex_text}
use Rattle.lat_text.specs.Digits.{payload_of}
use Rattle.lat_text.specs.Words.{space}
use Rattle.lat_text.specs.Lines.{line_feed}
use Rattle.lat_audit.specs.declared.entry.Entry.{Entry}
use Rattle.lat_audit.specs.Lines.{side_of, entry_of}
use Rattle.lat_audit.specs.Written.{side_text, entry_text, IsEntry}
use Rattle.lat_audit.proofs.Words.{IsWord, IsOneLine, word_in_line, lines_join, word_first}

digit_visible : (c : ℕ) → is_hex_digit c ≡ true → 32 < c
digit_visible c h = grind (arith, nat_tests)

digits_visible : (cs : List ℕ) → AllPass is_hex_digit cs → IsWord cs
digits_visible [] h = tt
digits_visible (c ∷ cs) h = (digit_visible c (h 0 c (omega arith)), digits_visible cs (λ k d l. h (suc k) d (omega arith)))

side_word : (by_master : Bool) → IsWord (side_text by_master)
side_word true = (lit< tt, tt)
side_word false = (lit< tt, tt)

side_read : (by_master : Bool) → side_of (side_text by_master) ≡ Some by_master
side_read true = refl
side_read false = refl

-- digits of so many bytes are no `-`
no_dash : (cs : List ℕ) (n : ℕ) → length cs ≡ 2 * n → bytes_eq cs (codes "-") ≡ false
no_dash cs n long = by (bytes_eq cs (codes "-")) refl
  where
    by : (b : Bool) → bytes_eq cs (codes "-") ≡ b → b ≡ false
    by true e = absurd (let one = ap length ((bytes_eq-Decides cs (codes "-")).0 e) in omega (arith, one, long))
    by false e = refl

-- what is known of the digits of bytes
record Digits (bytes : List ℕ) : Type 0 where
  pub word : IsWord (encode_lower bytes)
  pub long : length (encode_lower bytes) ≡ 2 * length bytes
  pub decoded : decode_of (encode_lower bytes) ≡ Ok bytes

digits_of : (bytes : List ℕ) → IsBytes bytes → Digits bytes
digits_of bytes are =
    let decoded = decode_of-encode_lower bytes are in
    let known = decode_of-ok (encode_lower bytes) bytes decoded in
    record { word = digits_visible (encode_lower bytes) known.1; long = known.2; decoded = decoded }

pub hex_word : (bytes : List ℕ) → IsBytes bytes → IsWord (hex_text bytes)
hex_word [] are = (lit< tt, tt)
hex_word (b ∷ bytes) are = (digits_of (b ∷ bytes) are).word

pub payload_read : (bytes : List ℕ) → IsBytes bytes → length bytes ≤ 4096 → payload_of (hex_text bytes) ≡ Some bytes
payload_read [] are few = refl
payload_read (b ∷ bytes) are few = digits_read (encode_lower (b ∷ bytes)) (digits_of (b ∷ bytes) are).long (digits_of (b ∷ bytes) are).decoded
  where
    digits_read : (cs : List ℕ) → length cs ≡ 2 * length (b ∷ bytes) → decode_of cs ≡ Ok (b ∷ bytes) → payload_of cs ≡ Some (b ∷ bytes)
    digits_read cs long decoded =
        let above : nat_le 2 (length cs) ≡ true = grind (arith, nat_tests, long) in
        let below : nat_le (length cs) 8192 ≡ true = grind (arith, nat_tests, long) in
        rw (no_dash cs (length (b ∷ bytes)) long, above, below, decoded) refl

-- the line without its line feed
abbrev pub entry_line : Entry → List ℕ
entry_line e = side_text e.by_master ++ space ∷ hex_text e.payload

pub entry_ends : (e : Entry) (rest : List ℕ) → entry_text e.by_master e.payload ++ rest ≡ entry_line e ++ line_feed ∷ rest
entry_ends e rest = simp append_assoc

pub entry_one_line : (e : Entry) → IsEntry e → IsOneLine (entry_line e)
entry_one_line e is =
    lines_join (side_text e.by_master) (space ∷ hex_text e.payload) (word_in_line (side_text e.by_master) (side_word e.by_master))
    (lit< tt, word_in_line (hex_text e.payload) (hex_word e.payload is.bytes))

pub entry_read : (e : Entry) → IsEntry e → entry_of (entry_line e) ≡ Some e
entry_read e is =
    rw (word_first (side_text e.by_master) (hex_text e.payload) (side_word e.by_master), side_read e.by_master, payload_read e.payload is.bytes is.few) refl
