-- A first line is read as the title that it was written of.
use Rattle.std.proofs.Common.{◌≡◌, ℕ, ◌^◌, ◌<◌, ◌≤◌, Bool, true, false, List, [], ◌∷◌, ◌++◌, refl, append_assoc, arith, lit<}
use Rattle.std.specs.Prelude.{Some, nat_lt, nat_le, bytes_eq, codes, decimal}
use Rattle.std.specs.Str.Parse.{AllDigits, digits_value}
use Rattle.std.proofs.lemmas.Str.Parse.{IsNumeralModel, numerals_by_value, tells_digits}
use Rattle.std.proofs.lemmas.Fmt.{digits_decimal, digits_value-decimal}
use Rattle.std.proofs.lemmas.Bool.Decides.{nat_tests}
use Rattle.std.proofs.lemmas.Slice.Eq.{bytes_eq-Decides}
use Rattle.std.specs.Char.{digit_value}
use Rattle.lat_text.specs.Numbers.{number_of}
use Rattle.lat_text.specs.Words.{space}
use Rattle.lat_text.specs.Lines.{line_feed}
use Rattle.lat_captures.specs.declared.head.Title.{Title}
use Rattle.lat_audit.specs.Lines.{id_of, wide_of, title_of}
use Rattle.lat_audit.specs.Written.{span_text, title_text, IsTitle}
use Rattle.lat_audit.proofs.Words.{IsWord, IsOneLine, word_in_line, lines_join, word_first, word_behind}

own : IsNumeralModel (AllDigits 10) (digits_value 10)
own = numerals_by_value (AllDigits 10) tells_digits

digit_visible : (c : ℕ) → digit_value c < 10 → 32 < c
digit_visible c h = grind (arith, nat_tests)

digits_visible : (cs : List ℕ) → AllDigits 10 cs → IsWord cs
digits_visible [] h = tt
digits_visible (c ∷ cs) h = (digit_visible c h.0, digits_visible cs h.1)

pub decimal_word : (n : ℕ) → n < 2 ^ 64 → IsWord (decimal n)
decimal_word n h = digits_visible (decimal n) (digits_decimal own n h)

-- a number is read as it is written
pub decimal_read : (n : ℕ) → n < 2 ^ 64 → number_of (decimal n) ≡ Some n
decimal_read n h =
    let value : digits_value 10 (decimal n) ≡ n = digits_value-decimal own n h in
    let small : nat_lt n (2 ^ 64) ≡ true = grind (arith, nat_tests) in
    let same : bytes_eq (decimal n) (decimal n) ≡ true = (bytes_eq-Decides (decimal n) (decimal n)).1 refl in
    rw (value, small, same) refl

id_read : (n : ℕ) → 1 ≤ n → n ≤ 65535 → id_of (decimal n) ≡ Some n
id_read n least most =
    let a : nat_le 1 n ≡ true = grind (arith, nat_tests) in
    let b : nat_le n 65535 ≡ true = grind (arith, nat_tests) in
    rw (decimal_read n (omega arith), a, b) refl

span_read : (wide : Bool) → wide_of (span_text wide) ≡ Some wide
span_read true = refl
span_read false = refl

span_word : (wide : Bool) → IsWord (span_text wide)
span_word true = (lit< tt, (lit< tt, (lit< tt, (lit< tt, tt))))
span_word false = (lit< tt, (lit< tt, (lit< tt, (lit< tt, tt))))

circuit_word : IsWord (codes "circuit")
circuit_word = (lit< tt, (lit< tt, (lit< tt, (lit< tt, (lit< tt, (lit< tt, (lit< tt, tt)))))))

-- the words behind `circuit`
abbrev ids_line : Title → List ℕ
ids_line t = decimal t.master ++ space ∷ (decimal t.slave ++ space ∷ span_text t.wide)

-- the first line without its line feed
abbrev pub title_line : Title → List ℕ
title_line t = codes "circuit" ++ space ∷ ids_line t

pub title_ends : (t : Title) (rest : List ℕ) → title_text t ++ rest ≡ title_line t ++ line_feed ∷ rest
title_ends t rest = simp append_assoc

below_64 : (n : ℕ) → n ≤ 65535 → n < 2 ^ 64
below_64 n h = omega arith

spaced : (xs ys : List ℕ) → IsOneLine xs → IsOneLine ys → IsOneLine (xs ++ space ∷ ys)
spaced xs ys h k = lines_join xs (space ∷ ys) h (lit< tt, k)

pub title_one_line : (t : Title) → IsTitle t → IsOneLine (title_line t)
title_one_line t is =
    let master = word_in_line (decimal t.master) (decimal_word t.master (below_64 t.master is.master_most)) in
    let slave = word_in_line (decimal t.slave) (decimal_word t.slave (below_64 t.slave is.slave_most)) in
    let span = word_in_line (span_text t.wide) (span_word t.wide) in
    spaced (codes "circuit") (ids_line t) (word_in_line (codes "circuit") circuit_word)
    (spaced (decimal t.master) (decimal t.slave ++ space ∷ span_text t.wide) master (spaced (decimal t.slave) (span_text t.wide) slave span))

pub title_read : (t : Title) → IsTitle t → title_of (title_line t) ≡ Some t
title_read t is =
    rw (
      word_behind (codes "circuit") (ids_line t) circuit_word,
      word_first (decimal t.master) (decimal t.slave ++ space ∷ span_text t.wide) (decimal_word t.master (below_64 t.master is.master_most)),
      word_first (decimal t.slave) (span_text t.wide) (decimal_word t.slave (below_64 t.slave is.slave_most)),
      id_read t.master is.master is.master_most,
      id_read t.slave is.slave is.slave_most,
      span_read t.wide,
    ) refl
