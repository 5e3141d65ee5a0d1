-- Words without a space or a line feed, and what is read of them.
use Rattle.std.proofs.Common.{◌≡◌, ℕ, suc, ◌+◌, ◌<◌, true, false, List, [], ◌∷◌, ◌++◌, length, take, drop, refl, ap, ◌∙◌, arith, lit<}
use Rattle.std.specs.Prelude.{Some, position, bytes_eq, nat_lt, ◌==◌}
use Rattle.std.specs.List.{position_from, list_all}
use Rattle.std.proofs.Math.Seq.{take-append_seam, drop-append-add}
use Rattle.std.proofs.lemmas.Iterator.Adapters.{position_from-zero}
use Rattle.std.proofs.lemmas.Bool.{and_parts}
use Rattle.std.proofs.lemmas.Bool.Decides.{nat_tests}
use Rattle.std.proofs.lemmas.Slice.Eq.{bytes_eq-Decides}
use Rattle.lat_model.specs.Lists.{Each}
use Rattle.lat_text.specs.Lines.{Line, lines_of, line_feed}
use Rattle.lat_text.specs.Words.{space, first_word}

-- visible bytes alone
abbrev pub IsWord : List ℕ → Type 0
IsWord word = Each (λ b. 32 < b) word

-- no line feed, but perhaps spaces
abbrev pub IsOneLine : List ℕ → Type 0
IsOneLine text = Each (λ b. 31 < b) text

-- words that are known, by a test that computes
pub visible : (word : List ℕ) → list_all (nat_lt 32) word ≡ true → IsWord word
visible [] h = tt
visible (b ∷ word) h =
    let parts = and_parts (nat_lt 32 b) (list_all (nat_lt 32) word) h in
    let here = parts.0 in
    (grind (arith, nat_tests), visible word parts.1)

pub word_in_line : (word : List ℕ) → IsWord word → IsOneLine word
word_in_line [] w = tt
word_in_line (b ∷ word) w = (omega (arith, w.0), word_in_line word w.1)

pub lines_join : (xs ys : List ℕ) → IsOneLine xs → IsOneLine ys → IsOneLine (xs ++ ys)
lines_join [] ys h k = k
lines_join (x ∷ xs) ys h k = (h.0, lines_join xs ys h.1 k)

pub words_join : (xs ys : List ℕ) → IsWord xs → IsWord ys → IsWord (xs ++ ys)
words_join [] ys h k = k
words_join (x ∷ xs) ys h k = (h.0, words_join xs ys h.1 k)

-- a word, a space and what stands behind
pub spaced : (word text : List ℕ) → IsWord word → IsOneLine text → IsOneLine (word ++ space ∷ text)
spaced word text w one = lines_join word (space ∷ text) (word_in_line word w) (lit< tt, one)

-- what stands before a line feed is a line
pub line_ends : (text rest : List ℕ) → IsOneLine text → lines_of (text ++ line_feed ∷ rest) ≡ Line text (lines_of rest)
line_ends [] rest one = refl
line_ends (b ∷ text) rest one =
    let other : (b == line_feed) ≡ false = let high = one.0 in grind (arith, nat_tests) in
    rw (other, line_ends text rest one.1) refl

space_found : (k : ℕ) (word rest : List ℕ) → IsWord word → position_from (λ b. b == space) k (word ++ space ∷ rest) ≡ Some (k + length word)
space_found k [] rest w = ap Some (omega arith)
space_found k (b ∷ word) rest w =
    let other : (b == space) ≡ false = let high = w.0 in grind (arith, nat_tests) in
    let here : k + 1 + length word ≡ k + suc (length word) = omega arith in
    rw other (space_found (k + 1) word rest w.1 ∙ ap Some here)

-- the first word stands before the first space
pub word_first : (word rest : List ℕ) → IsWord word → first_word (word ++ space ∷ rest) ≡ Some (word, rest)
word_first word rest w =
    let found : position (λ b. b == space) (word ++ space ∷ rest) ≡ Some (length word) =
    position_from-zero (λ b. b == space) (word ++ space ∷ rest) ∙ space_found 0 word rest w ∙ ap Some (omega arith) in
    let front : take (length word) (word ++ space ∷ rest) ≡ word = take-append_seam word (space ∷ rest) in
    let back : drop (length word + 1) (word ++ space ∷ rest) ≡ rest = drop-append-add word (space ∷ rest) 1 in
    rw found (rw (front, back) refl)

pub same_bytes : (xs : List ℕ) → bytes_eq xs xs ≡ true
same_bytes xs = (bytes_eq-Decides xs xs).1 refl
