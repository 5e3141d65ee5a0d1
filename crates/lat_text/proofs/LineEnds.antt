-- Where a text's first line ends.
use Rattle.std.proofs.Common.{◌≡◌, ℕ, suc, ◌+◌, ◌<◌, Bool, true, false, List, [], ◌∷◌, length, take, drop, refl, sym, ◌∙◌, subst, arith, add-one}
use Rattle.std.specs.Prelude.{Option, Some, None, position, nat_lt, ◌==◌}
use Rattle.std.specs.List.{position_from, position_or_len}
use Rattle.std.proofs.lemmas.Iterator.Adapters.{position_from-zero}
use Rattle.std.proofs.lemmas.List.Sums.{position_or_len_is}
use Rattle.std.proofs.lemmas.Bool.Decides.{nat_tests}
use Rattle.memchr.specs.Find.{IsFirstByte, is_byte}
use Rattle.lat_text.specs.Lines.{Cut, Line, lines_of, no_line, byte_before, line_feed}

-- so many bytes stand in front of the first line feed
record EndsBehind (n : ℕ) (text : List ℕ) : Type 0 where
  pub within : n < length text
  pub lines : lines_of text ≡ Line (take n text) (lines_of (drop (suc n) text))

ends_step : (k at b : ℕ) (text : List ℕ) (test : Bool) → (b == line_feed) ≡ test → (position_from (λ x. x == line_feed) (k + 1) text ≡ Some at → (n : ℕ) × (at ≡ (k + 1) + n) × EndsBehind n text)
    → position_from (λ x. x == line_feed) k (b ∷ text) ≡ Some at → (n : ℕ) × (at ≡ k + n) × EndsBehind n (b ∷ text)
ends_step k at b text true is more h =
    let found : Some k ≡ Some at = rw is at h in
    (0, omega (arith, let e : k ≡ at = cc in e), record { within = omega arith; lines = rw is refl })
ends_step k at b text false is more h =
    let found : position_from (λ x. x == line_feed) (k + 1) text ≡ Some at = rw is at h in
    let m = more found in
    (suc m.0, omega (arith, m.1), record { within = omega (arith, m.2.within); lines = rw (is, m.2.lines) refl })

ends_from : (k at : ℕ) (text : List ℕ) → position_from (λ x. x == line_feed) k text ≡ Some at → (n : ℕ) × (at ≡ k + n) × EndsBehind n text
ends_from k at [] h = absurd (let no : None ≡ Some at = h in cc)
ends_from k at (b ∷ text) h = ends_step k at b text (b == line_feed) refl (ends_from (k + 1) at text) h

before_none : (b : ℕ) (text : List ℕ) → byte_before b (no_line text) ≡ Cut
before_none b [] = refl
before_none b (c ∷ text) = refl

none_step : (k b : ℕ) (text : List ℕ) (test : Bool) → (b == line_feed) ≡ test → (position_from (λ x. x == line_feed) (k + 1) text ≡ None → lines_of text ≡ no_line text)
    → position_from (λ x. x == line_feed) k (b ∷ text) ≡ None → lines_of (b ∷ text) ≡ Cut
none_step k b text true is more h = absurd (let no : Some k ≡ None = rw is at h in cc)
none_step k b text false is more h =
    let none : position_from (λ x. x == line_feed) (k + 1) text ≡ None = rw is at h in
    rw (is, more none) (before_none b text)

none_from : (k : ℕ) (text : List ℕ) → position_from (λ x. x == line_feed) k text ≡ None → lines_of text ≡ no_line text
none_from k [] h = refl
none_from k (b ∷ text) h = none_step k b text (b == line_feed) refl (none_from (k + 1) text) h

line_ends : (at : ℕ) (text : List ℕ) → position (λ x. x == line_feed) text ≡ Some at → EndsBehind at text
line_ends at text h =
    let m = ends_from 0 at text (sym (position_from-zero (λ x. x == line_feed) text) ∙ h) in
    let same : m.0 ≡ at = omega (arith, m.1) in
    subst (λ n. EndsBehind n text) same m.2

-- the first line ends at the first line feed, and the others stand behind that
pub line_found : (at : ℕ) (text line behind : List ℕ) → position (λ x. x == line_feed) text ≡ Some at → line ≡ take at text → behind ≡ drop (at + 1) text
    → lines_of text ≡ Line line (lines_of behind)
line_found at text line behind h front back =
    rw (front, back, add-one) (line_ends at text h).lines

-- a text without a line feed has no line
pub no_line_ends : (text : List ℕ) → position (λ x. x == line_feed) text ≡ None → lines_of text ≡ no_line text
no_line_ends text h = none_from 0 text (sym (position_from-zero (λ x. x == line_feed) text) ∙ h)

untrue : (b : Bool) → ¬ (b ≡ true) → b ≡ false
untrue true h = absurd (h refl)
untrue false h = refl

-- the first place that a search found is the place of the first line feed
pub search_is_position : (text : List ℕ) (r : Option ℕ) → IsFirstByte (is_byte line_feed) text r → r ≡ position (λ b. b == line_feed) text
search_is_position text None h =
    let at : position_or_len (λ b. b == line_feed) text ≡ length text =
    position_or_len_is (λ b. b == line_feed) text (length text) 0 (omega arith) (λ k lt. untrue _ (h k (omega arith) lt)) (λ lt. absurd (omega (arith, lt))) in
    let past : nat_lt (length text) (length text) ≡ false = grind (arith, nat_tests) in
    rw (at, past) refl
search_is_position text (Some k) h =
    let high = h.0.high in
    let at : position_or_len (λ b. b == line_feed) text ≡ k =
    position_or_len_is (λ b. b == line_feed) text k 0 (omega (arith, high)) (λ j lt. untrue _ (h.0.before j (omega arith) lt)) (λ lt. h.1) in
    let within : nat_lt k (length text) ≡ true = grind (arith, nat_tests) in
    rw (at, within) refl
