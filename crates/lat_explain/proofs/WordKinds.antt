-- Words of each kind, and what they begin with: hex digits, and words that are written out.
use Rattle.std.proofs.Common.{◌≡◌, ℕ, zero, suc, ◌-◌, ◌%◌, ◌≤◌, Bool, true, List, [], ◌∷◌, ◌++◌, length, take, drop, replicate, refl, sym, ap, ◌∙◌, arith, length-append, take-append-drop}
use Rattle.std.specs.Prelude.{Option, Some, None, is_some, nat_le, nat_lt, nat_eq, bytes_eq, ◌&&◌}
use Rattle.std.specs.List.{list_all}
use Rattle.std.proofs.Math.Seq.{take-append_seam}
use Rattle.std.proofs.lemmas.List.{length-replicate}
use Rattle.std.proofs.lemmas.List.Folds.{list_all-append}
use Rattle.std.proofs.lemmas.Slice.Eq.{bytes_eq-Decides}
use Rattle.std.proofs.lemmas.Bool.Decides.{nat_tests}
use Rattle.lat_text.specs.Digits.{byte_of}
use Rattle.hex.specs.Hex.{hex_digit_value}
use Rattle.lat_explain.specs.Forms.{Taken, begins, fits, is_hex, begins_hex, fits_hex, begins_word}
use Rattle.lat_explain.proofs.Tests.{both, and_so, le_true, true_le, false_true}

-- a byte that is no space, and nothing below one
abbrev pub is_visible : ℕ → Bool
is_visible b = nat_lt 32 b

-- What holds of a form's words: no byte may begin some, what may begin one goes on to one, what one begins with may begin it, and
-- none has a space or a line feed
pub record WordLaws (taken : Taken) (f : List ℕ) : Type 0 where
  pub nothing : begins taken f [] ≡ true
  pub goes_on : (word : List ℕ) → begins taken f word ≡ true → (behind : List ℕ) × (fits taken f (word ++ behind) ≡ true)
  pub begun_so : (word behind : List ℕ) → fits taken f (word ++ behind) ≡ true → begins taken f word ≡ true
  pub visible : (word : List ℕ) → fits taken f word ≡ true → list_all is_visible word ≡ true

-- hex digits

pub all_zeros : (n : ℕ) → list_all is_hex (replicate n 48) ≡ true
all_zeros zero = refl
all_zeros (suc n) = all_zeros n

pub hex_goes_on : (least most : ℕ) (word : List ℕ) → least ≤ most → most % 2 ≡ 0 → begins_hex (least, most) word ≡ true → (behind : List ℕ) × (fits_hex (least, most) (word ++ behind) ≡ true)
unfolding begins_hex fits_hex
hex_goes_on least most word ordered even h =
    let parts = both (nat_le (length word) most) (list_all is_hex word) h in
    let few = true_le (length word) most parts.0 in
    let zeros = replicate (most - length word) 48 in
    let long : length (word ++ zeros) ≡ most = omega (arith, few, length-append word zeros, length-replicate {A = ℕ} (most - length word) 48) in
    let low : nat_le least (length (word ++ zeros)) ≡ true = le_true least (length (word ++ zeros)) (omega (arith, long, ordered)) in
    let halves : nat_eq (length (word ++ zeros) % 2) 0 ≡ true = ap (λ (n : ℕ). nat_eq (n % 2) 0) long ∙ ap (λ (n : ℕ). nat_eq n 0) even in
    let high : nat_le (length (word ++ zeros)) most ≡ true = le_true (length (word ++ zeros)) most (omega (arith, long)) in
    let digits : list_all is_hex (word ++ zeros) ≡ true = list_all-append is_hex word zeros ∙ and_so (list_all is_hex word) (list_all is_hex zeros) parts.1 (all_zeros (most - length word)) in (
      zeros,
      and_so (nat_le least (length (word ++ zeros)) && nat_eq (length (word ++ zeros) % 2) 0) (nat_le (length (word ++ zeros)) most && list_all is_hex (word ++ zeros))
          (and_so (nat_le least (length (word ++ zeros))) (nat_eq (length (word ++ zeros) % 2) 0) low halves)
          (and_so (nat_le (length (word ++ zeros)) most) (list_all is_hex (word ++ zeros)) high digits),
    )

pub hex_begins : (least most : ℕ) (word behind : List ℕ) → fits_hex (least, most) (word ++ behind) ≡ true → begins_hex (least, most) word ≡ true
unfolding begins_hex fits_hex
hex_begins least most word behind h =
    let all = word ++ behind in
    let parts = both (nat_le least (length (word ++ behind)) && nat_eq (length (word ++ behind) % 2) 0) (nat_le (length (word ++ behind)) most && list_all is_hex (word ++ behind)) h in
    let ends = both (nat_le (length (word ++ behind)) most) (list_all is_hex (word ++ behind)) parts.1 in
    let few = true_le (length (word ++ behind)) most ends.0 in
    let digits = both (list_all is_hex word) (list_all is_hex behind) (sym (list_all-append is_hex word behind) ∙ ends.1) in
    and_so (nat_le (length word) most) (list_all is_hex word) (le_true (length word) most (omega (arith, few, length-append word behind))) digits.0

hex_byte_visible : (b : ℕ) → is_hex b ≡ true → is_visible b ≡ true
hex_byte_visible b h = by (hex_digit_value b) refl h
  where
    by : (o : Option ℕ) → hex_digit_value b ≡ o → is_some (byte_of b b) ≡ true → is_visible b ≡ true
    by None e k = false_true (sym (rw e refl) ∙ k)
    by (Some v) e k = grind (arith, nat_tests)

all_hex_visible : (word : List ℕ) → list_all is_hex word ≡ true → list_all is_visible word ≡ true
all_hex_visible [] h = refl
all_hex_visible (b ∷ word) h =
    let parts = both (is_hex b) (list_all is_hex word) h in
    and_so (is_visible b) (list_all is_visible word) (hex_byte_visible b parts.0) (all_hex_visible word parts.1)

pub hex_visible : (least most : ℕ) (word : List ℕ) → fits_hex (least, most) word ≡ true → list_all is_visible word ≡ true
unfolding begins_hex fits_hex
hex_visible least most word h =
    let parts = both (nat_le least (length word) && nat_eq (length word % 2) 0) (nat_le (length word) most && list_all is_hex word) h in
    all_hex_visible word (both (nat_le (length word) most) (list_all is_hex word) parts.1).1

-- words that are written out

pub word_goes_on : (form word : List ℕ) → begins_word form word ≡ true → (behind : List ℕ) × (bytes_eq (word ++ behind) form ≡ true)
word_goes_on form word h =
    let parts = both (nat_le (length word) (length form)) (bytes_eq (take (length word) form) word) h in
    let front = (bytes_eq-Decides (take (length word) form) word).0 parts.1 in
    let all : word ++ drop (length word) form ≡ form = ap (λ (w : List ℕ). w ++ drop (length word) form) (sym front) ∙ take-append-drop (length word) form in
    (drop (length word) form, (bytes_eq-Decides (word ++ drop (length word) form) form).1 all)

pub word_begins : (form word behind : List ℕ) → bytes_eq (word ++ behind) form ≡ true → begins_word form word ≡ true
word_begins form word behind h =
    let all = (bytes_eq-Decides (word ++ behind) form).0 h in
    let front : take (length word) form ≡ word = ap (take (length word)) (sym all) ∙ take-append_seam word behind in
    let long = ap length all in
    and_so (nat_le (length word) (length form)) (bytes_eq (take (length word) form) word) (le_true (length word) (length form) (omega (arith, long, length-append word behind)))
    ((bytes_eq-Decides (take (length word) form) word).1 front)
