-- The first line of a text with a margin.
use Rattle.std.proofs.Common.{◌≡◌, ◌≢◌, ℕ, suc, ◌<◌, Bool, true, false, eqb, List, [], ◌∷◌, ◌++◌, length, get_or, Bor, refl, sym, ap, ◌∙◌, arith}
use Rattle.std.specs.Prelude.{Option, Some, None, IfSome, IfNone, ◌==◌, if◌then◌else◌}
use Rattle.std.proofs.lemmas.Bool.Decides.{nat_tests}
use Rattle.std.proofs.lemmas.Str.Pattern.{IsSplitOnceResult, split_parts}
use Rattle.lat_print.specs.Indented.{margin, indented_from, indented, last_indented}

-- no line feed stands in it
abbrev pub IsLine : List ℕ → Type 0
IsLine text = (i : ℕ) → i < length text → get_or text i 0 ≢ 10

first_isnt : (b : ℕ) (text : List ℕ) → IsLine (b ∷ text) → (b == 10) ≡ false
first_isnt b text is = let other : b ≢ 10 = is 0 (omega arith) in grind (arith, nat_tests)

rest_is : (b : ℕ) (text : List ℕ) → IsLine (b ∷ text) → IsLine text
rest_is b text is = λ i within. is (suc i) (omega (arith, within))

line_from : (begins : Bool) (front behind : List ℕ) → IsLine front
    → indented_from begins (front ++ (10 ∷ behind)) ≡ (if begins then margin else []) ++ (front ++ (10 ∷ indented behind))
unfolding indented_from
line_from begins [] behind is = refl
line_from begins (b ∷ front) behind is =
    rw (first_isnt b front is, line_from false front behind (rest_is b front is)) refl

pub line_first : (text front behind : List ℕ) → text ≡ front ++ (10 ∷ behind) → IsLine front → indented text ≡ margin ++ (front ++ (10 ∷ indented behind))
line_first text front behind same is = ap indented same ∙ line_from true front behind is

same_from : (text : List ℕ) → IsLine text → indented_from false text ≡ text
unfolding indented_from
same_from [] is = refl
same_from (b ∷ text) is = rw (first_isnt b text is, same_from text (rest_is b text is)) refl

pub line_last : (text : List ℕ) → IsLine text → indented text ≡ last_indented text
unfolding indented_from
line_last [] is = refl
line_last (b ∷ text) is = rw (first_isnt b text is, same_from text (rest_is b text is)) refl

-- the two parts round a text's first line feed
pub first_found : (text : List ℕ) (r : Option (Bor (List ℕ) × Bor (List ℕ))) → IsSplitOnceResult 10 text r → IfSome r (λ x. indented text ≡ margin ++ (x.0.now ++ (10 ∷ indented x.1.now)))
first_found text (Some x) split = let parts = split_parts 10 text (Some x) split (omega arith) in line_first text x.0.now x.1.now parts.0 parts.1
first_found text None split = tt

pub none_found : (text : List ℕ) (r : Option (Bor (List ℕ) × Bor (List ℕ))) → IsSplitOnceResult 10 text r → IfNone r (indented text ≡ last_indented text)
none_found text (Some x) split = tt
none_found text None split = line_last text (split_parts 10 text None split (omega arith))
