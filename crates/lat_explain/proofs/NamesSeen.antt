-- No byte of a name is written by a space or a line feed.
use Rattle.std.proofs.Common.{◌≡◌, ℕ, zero, suc, ◌+◌, ◌*◌, Bool, true, false, List, [], ◌∷◌, refl, ap, ◌∙◌, arith}
use Rattle.std.specs.Prelude.{Option, Some, None, is_some, option_map, option_and_then, ◌==◌, if◌then◌else◌}
use Rattle.std.specs.List.{list_all}
use Rattle.std.proofs.lemmas.Bool.Decides.{nat_tests}
use Rattle.hex.specs.Hex.{hex_digit_value}
use Rattle.lat_text.specs.Digits.{byte_of}
use Rattle.lat_text.specs.NameText.{is_plain}
use Rattle.lat_text.specs.NameWritten.{name_of, percent, first_byte, escaped, unless_plain, bytes_written}
use Rattle.lat_explain.proofs.NameShapes.{none_some, some_same, name_written}
use Rattle.lat_explain.proofs.Tests.{and_so, false_true}
use Rattle.lat_explain.proofs.WordKinds.{is_visible}

digit_seen : (d h : ℕ) → hex_digit_value d ≡ Some h → is_visible d ≡ true
digit_seen d h is = grind (arith, nat_tests)

plain_seen : (b : ℕ) → is_plain b ≡ true → is_visible b ≡ true
plain_seen b h = grind (arith, nat_tests)

percent_seen : (b : ℕ) → (b == percent) ≡ true → is_visible b ≡ true
percent_seen b h = grind (arith, nat_tests)

digits_seen : (high low v : ℕ) → byte_of high low ≡ Some v → (is_visible high ≡ true) × (is_visible low ≡ true)
digits_seen high low v is = by (hex_digit_value high) refl (hex_digit_value low) refl is
  where
    by : (a : Option ℕ) → hex_digit_value high ≡ a → (b : Option ℕ) → hex_digit_value low ≡ b
        → option_and_then (λ (h : ℕ). option_map (λ (l : ℕ). h * 16 + l) b) a ≡ Some v → (is_visible high ≡ true) × (is_visible low ≡ true)
    by None ea b eb k = none_some v k
    by (Some h) ea None eb k = none_some v k
    by (Some h) ea (Some l) eb k = (digit_seen high h ea, digit_seen low l eb)

-- the text of a byte is visible, and so is all where what stands behind it is
first_seen : (w : List ℕ) (v : ℕ) (rest : List ℕ) → first_byte w ≡ Some (v, rest) → list_all is_visible rest ≡ true → list_all is_visible w ≡ true
first_seen [] v rest h seen = refl
first_seen (b ∷ text) v rest h seen = by (is_plain b) refl (b == percent) refl h
  where
    digits : (text : List ℕ) → (b == percent) ≡ true → escaped text ≡ Some (v, rest) → list_all is_visible (b ∷ text) ≡ true
    digits [] eq k = none_some (v, rest) k
    digits (high ∷ []) eq k = none_some (v, rest) k
    digits (high ∷ low ∷ t) eq k = two (byte_of high low) refl k
      where
        so : (u : ℕ) → byte_of high low ≡ Some u → (p : Bool) → option_map {U = ℕ × List ℕ} (λ (b : ℕ). (b, t)) (if p then None else Some u) ≡ Some (v, rest) → list_all is_visible (b ∷ high ∷ low ∷ t) ≡ true
        so u e true k = none_some (v, rest) k
        so u e false k =
            let behind : t ≡ rest = ap (λ (p : ℕ × List ℕ). p.1) (some_same (u, t) (v, rest) k) in
            let seen_digits = digits_seen high low u e in
            and_so (is_visible b) (list_all is_visible (high ∷ low ∷ t)) (percent_seen b eq)
            (and_so (is_visible high) (list_all is_visible (low ∷ t)) seen_digits.0
            (and_so (is_visible low) (list_all is_visible t) seen_digits.1 (ap (list_all is_visible) behind ∙ seen)))

        two : (o : Option ℕ) → byte_of high low ≡ o → option_map {U = ℕ × List ℕ} (λ (b : ℕ). (b, t)) (option_and_then unless_plain o) ≡ Some (v, rest) → list_all is_visible (b ∷ high ∷ low ∷ t) ≡ true
        two None e k = none_some (v, rest) k
        two (Some u) e k = so u e (is_plain u) k

    by : (p : Bool) → is_plain b ≡ p → (q : Bool) → (b == percent) ≡ q → (if p then Some (b, text) else if q then escaped text else None) ≡ Some (v, rest)
        → list_all is_visible (b ∷ text) ≡ true
    by true ep q eq k =
        let behind : text ≡ rest = ap (λ (p : ℕ × List ℕ). p.1) (some_same (b, text) (v, rest) k) in
        and_so (is_visible b) (list_all is_visible text) (plain_seen b ep) (ap (list_all is_visible) behind ∙ seen)
    by false ep true eq k = digits text eq k
    by false ep false eq k = none_some (v, rest) k

written_seen : (most : ℕ) (w m : List ℕ) → bytes_written most w ≡ Some m → list_all is_visible w ≡ true
written_seen most [] m h = refl
written_seen zero (b ∷ w) m h = none_some m h
written_seen (suc most) (b ∷ w) m h = by (first_byte (b ∷ w)) refl h (written_seen most)
  where
    read : (v : ℕ) (rest : List ℕ) → first_byte (b ∷ w) ≡ Some (v, rest) → (o : Option (List ℕ)) → bytes_written most rest ≡ o → option_map (λ (bytes : List ℕ). v ∷ bytes) o ≡ Some m
        → ((w m : List ℕ) → bytes_written most w ≡ Some m → list_all is_visible w ≡ true) → list_all is_visible (b ∷ w) ≡ true
    read v rest e None er k more = none_some m k
    read v rest e (Some bytes) er k more = first_seen (b ∷ w) v rest e (more rest bytes er)

    by : (o : Option (ℕ × List ℕ)) → first_byte (b ∷ w) ≡ o
        → option_and_then (λ (first : ℕ × List ℕ). option_map (λ (bytes : List ℕ). first.0 ∷ bytes) (bytes_written most first.1)) o ≡ Some m
        → ((w m : List ℕ) → bytes_written most w ≡ Some m → list_all is_visible w ≡ true) → list_all is_visible (b ∷ w) ≡ true
    by None e k more = none_some m k
    by (Some p) e k more = read p.0 p.1 e (bytes_written most p.1) refl k more

pub name_visible : (w : List ℕ) → is_some (name_of w) ≡ true → list_all is_visible w ≡ true
name_visible w h = by (name_of w) refl h
  where
    by : (o : Option (List ℕ)) → name_of w ≡ o → is_some o ≡ true → list_all is_visible w ≡ true
    by None e k = false_true k
    by (Some m) e k = written_seen 16 w m (name_written w m e).read
