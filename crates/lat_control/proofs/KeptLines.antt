-- 258 bytes of a line tell whether it is too long, and are all of it where it isn't.
use Rattle.std.proofs.Common.{◌≡◌, ℕ, ◌+◌, ◌-◌, ◌<◌, ◌≤◌, ◌==◌, Bool, true, false, if◌then◌else◌, List, [], ◌∷◌, ◌++◌, length, take, refl, sym, ap, ◌∙◌, subst, arith, inl, inr, get_or}
use Rattle.std.proofs.lemmas.List.{length-append, length-take-le, take_all, take-append-le}
use Rattle.std.proofs.lemmas.Bool.{cases_lt, le-ltb, lt-ltb}
use Rattle.lat_control.specs.Lines.{without_return}
use Rattle.lat_control.specs.Answered.{Said, SaidOf, long_text}

-- a line with one more byte
pub kept_more : (xs : List ℕ) (b : ℕ) → length (take 258 xs) < 258 → take 258 (xs ++ b ∷ []) ≡ take 258 xs ++ b ∷ []
kept_more xs b lt = elim (cases_lt (length xs) 258) [
  | inl few ↦ take_all 258 (xs ++ b ∷ []) (omega (arith, length-append xs (b ∷ []), few)) ∙ ap (λ w. w ++ b ∷ []) (sym (take_all 258 xs (omega (arith, few))))
  | inr many ↦ absurd (omega (arith, lt, length-take-le 258 xs many))
]

pub kept_full : (xs : List ℕ) (b : ℕ) → 258 ≤ length (take 258 xs) → take 258 (xs ++ b ∷ []) ≡ take 258 xs
kept_full xs b le = elim (cases_lt (length xs) 258) [
  | inl few ↦ absurd (omega (arith, le, few, ap length (take_all 258 xs (omega (arith, few)))))
  | inr many ↦ take-append-le 258 xs (b ∷ []) many
]

cut_by : (c : Bool) (xs : List ℕ) → length xs ≤ length (if c then take (length xs - 1) xs else xs) + 1
cut_by true xs = omega (arith, length-take-le (length xs - 1) xs (omega arith))
cut_by false xs = omega arith

-- one byte at most is dropped
few_dropped : (xs : List ℕ) → length xs ≤ length (without_return xs) + 1
few_dropped xs = cut_by (get_or xs (length xs - 1) 0 == 13) xs

pub short_whole : (xs : List ℕ) → length (without_return (take 258 xs)) ≤ 256 → take 258 xs ≡ xs
short_whole xs le = elim (cases_lt 258 (length xs)) [
  | inl many ↦ absurd (omega (arith, le, few_dropped (take 258 xs), length-take-le 258 xs (omega (arith, many))))
  | inr few ↦ take_all 258 xs few
]

pub long_whole : (xs : List ℕ) → 256 < length (without_return (take 258 xs)) → 256 < length (without_return xs)
long_whole xs lt = elim (cases_lt 258 (length xs)) [
  | inl many ↦ omega (arith, many, few_dropped xs)
  | inr few ↦ subst (λ w. 256 < length (without_return w)) (take_all 258 xs few) lt
]

as_long : (says : List ℕ → List ℕ → Type 0) (line answer : List ℕ) → 256 < length line → Said says line answer → answer ≡ long_text
as_long says line answer lt said = subst (λ b. SaidOf says b line answer) (lt-ltb 256 (length line) lt) said

as_short : (says : List ℕ → List ℕ → Type 0) (line answer : List ℕ) → length line ≤ 256 → Said says line answer → says line answer
as_short says line answer le said = subst (λ b. SaidOf says b line answer) (le-ltb 256 (length line) le) said

pub of_long : (says : List ℕ → List ℕ → Type 0) (line answer : List ℕ) → 256 < length line → answer ≡ long_text → Said says line answer
of_long says line answer lt same = subst (λ b. SaidOf says b line answer) (sym (lt-ltb 256 (length line) lt)) same

pub of_short : (says : List ℕ → List ℕ → Type 0) (line answer : List ℕ) → length line ≤ 256 → says line answer → Said says line answer
of_short says line answer le said = subst (λ b. SaidOf says b line answer) (sym (le-ltb 256 (length line) le)) said

-- an answer to what is kept of a line is one to the line
pub said_kept : (says : List ℕ → List ℕ → Type 0) (kept begun answer : List ℕ) → kept ≡ take 258 begun →
    Said says (without_return kept) answer → Said says (without_return begun) answer
said_kept says kept begun answer is said = elim (cases_lt 256 (length (without_return kept))) [
  | inl lt ↦
      let many = long_whole begun (subst (λ w. 256 < length (without_return w)) is lt) in
      of_long says (without_return begun) answer many (as_long says (without_return kept) answer lt said)
  | inr le ↦
      let whole : kept ≡ begun = is ∙ short_whole begun (subst (λ w. length (without_return w) ≤ 256) is le) in
      subst (λ w. Said says (without_return w) answer) whole said
]
