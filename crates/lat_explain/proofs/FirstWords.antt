-- A text's first word, and what two texts have in common.
use Rattle.std.proofs.Common.{◌≡◌, ℕ, suc, Bool, true, false, not, List, [], ◌∷◌, ◌++◌, length, take, append-nil, refl, sym, ap, ◌∙◌, arith, length-append, take_all}
use Rattle.std.specs.Prelude.{nat_lt, ◌==◌}
use Rattle.std.specs.List.{list_all, prefix_len}
use Rattle.std.proofs.Math.Seq.{take-append_seam}
use Rattle.std.proofs.lemmas.List.{nil_from_length}
use Rattle.std.proofs.lemmas.Bool.Decides.{nat_tests}
use Rattle.lat_explain.specs.Columns.{joined}
use Rattle.lat_explain.specs.Walks.{front_word}
use Rattle.lat_explain.proofs.Tests.{both, and_so, false_lt, false_true}
use Rattle.lat_explain.proofs.WordKinds.{is_visible}

abbrev pub isnt_space : ℕ → Bool
isnt_space b = not (b == 32)

is_space : (b : ℕ) → isnt_space b ≡ false → b ≡ 32
is_space b h = grind (arith, nat_tests)

visible_plain : (b : ℕ) → is_visible b ≡ true → isnt_space b ≡ true
visible_plain b h = grind (arith, nat_tests)

pub all_plain : (w : List ℕ) → list_all is_visible w ≡ true → list_all isnt_space w ≡ true
all_plain [] h = refl
all_plain (b ∷ w) h =
    let parts = both (is_visible b) (list_all is_visible w) h in
    and_so (isnt_space b) (list_all isnt_space w) (visible_plain b parts.0) (all_plain w parts.1)

-- behind a word nothing stands, or a space
pub data Behind (rest : List ℕ) : Type 0 where
  Nothing : rest ≡ [] → Behind rest
  Space : (text : List ℕ) → rest ≡ 32 ∷ text → Behind rest

-- a text's first word, and what stands behind it
pub record Split (text : List ℕ) : Type 0 where
  pub word : List ℕ
  pub rest : List ℕ
  pub is : text ≡ word ++ rest
  pub plain : list_all isnt_space word ≡ true
  pub behind : Behind rest
  pub long : prefix_len isnt_space text ≡ length word

pub split : (text : List ℕ) → Split text
split [] = record { word = []; rest = []; is = refl; plain = refl; behind = Nothing refl; long = refl }
split (b ∷ text) = by (isnt_space b) refl (split text)
  where
    by : (t : Bool) → isnt_space b ≡ t → Split text → Split (b ∷ text)
    by true e s =
        let n = s.long in
        record {
          word = b ∷ s.word;
          rest = s.rest;
          is = ap (λ (l : List ℕ). b ∷ l) s.is;
          plain = and_so (isnt_space b) (list_all isnt_space s.word) e s.plain;
          behind = s.behind;
          long = rw e (omega (arith, n));
        }
    by false e s =
        record {
          word = [];
          rest = b ∷ text;
          is = refl;
          plain = refl;
          behind = Space text (ap (λ (x : ℕ). x ∷ text) (is_space b e));
          long = rw e refl;
        }

pub front_is : (text : List ℕ) (s : Split text) → front_word text ≡ s.word
front_is text s = by (nat_lt (prefix_len isnt_space text) (length text)) refl
  where
    by : (t : Bool) → nat_lt (prefix_len isnt_space text) (length text) ≡ t → front_word text ≡ s.word
    by true e = rw e (ap (λ (k : ℕ). take k text) s.long ∙ ap (take (length s.word)) s.is ∙ take-append_seam s.word s.rest)
    by false e =
        let past = false_lt (prefix_len isnt_space text) (length text) e in
        let n = s.long in
        let all = ap length s.is in
        let none : length s.rest ≡ 0 = omega (arith, past, n, all, length-append s.word s.rest) in
        rw e (take_all (length text) text (omega arith) ∙ s.is ∙ ap (λ (r : List ℕ). s.word ++ r) (nil_from_length s.rest none) ∙ append-nil s.word)

-- what stands behind the first of some words
abbrev pub tail_of : List (List ℕ) → List ℕ
tail_of [] = []
tail_of (word ∷ words) = 32 ∷ joined (word ∷ words)

pub joined_is : (word : List ℕ) (words : List (List ℕ)) → joined (word ∷ words) ≡ word ++ tail_of words
joined_is word [] = sym (append-nil word)
joined_is word (next ∷ words) = refl

pub behind_tail : (words : List (List ℕ)) → Behind (tail_of words)
behind_tail [] = Nothing refl
behind_tail (word ∷ words) = Space (joined (word ∷ words)) refl

-- what two texts have in common lies within the first word of both, or that word is the same
pub data Common (w word tail rest c a b : List ℕ) : Type 0 where
  Within : (d : List ℕ) → w ≡ c ++ d → (e : List ℕ) → word ≡ c ++ e → Common w word tail rest c a b
  Past : (next one two : List ℕ) → w ≡ word → tail ≡ 32 ∷ one → rest ≡ 32 ∷ two → c ≡ word ++ 32 ∷ next → one ≡ next ++ a → two ≡ next ++ b → Common w word tail rest c a b

head_same : (x y : ℕ) (xs ys : List ℕ) → x ∷ xs ≡ y ∷ ys → x ≡ y
head_same x y xs ys h = cc

pub tail_same : (x y : ℕ) (xs ys : List ℕ) → x ∷ xs ≡ y ∷ ys → xs ≡ ys
tail_same x y xs ys h = cc

pub not_nil : {P : Type 0} (x : ℕ) (xs : List ℕ) → [] ≡ x ∷ xs → P
not_nil x xs h = absurd (let none : 0 ≡ suc (length xs) = ap length h in omega (arith, none))

-- behind nothing but a space
at_space : (x : ℕ) (rest xs : List ℕ) → Behind rest → rest ≡ x ∷ xs → (x ≡ 32) × (rest ≡ 32 ∷ xs)
at_space x rest xs (Nothing e) is = not_nil x xs (sym e ∙ is)
at_space x rest xs (Space text e) is =
    let same = sym e ∙ is in
    let one : 32 ≡ x = head_same 32 x text xs same in
    (sym one, is ∙ ap (λ (y : ℕ). y ∷ xs) (sym one))

no_space_in : {P : Type 0} (y : ℕ) (word : List ℕ) → list_all isnt_space (y ∷ word) ≡ true → y ≡ 32 → P
no_space_in y word h is =
    let plain = (both (isnt_space y) (list_all isnt_space word) h).0 in
    let not_so : isnt_space y ≡ false = ap isnt_space is in
    false_true (sym not_so ∙ plain)

pub common : (w word tail rest c a b : List ℕ) → list_all isnt_space w ≡ true → list_all isnt_space word ≡ true → Behind tail → Behind rest → w ++ tail ≡ c ++ a → word ++ rest ≡ c ++ b
    → Common w word tail rest c a b
common w word tail rest [] a b pw pword bt br ev et = Within w refl word refl
common [] [] tail rest (x ∷ c) a b pw pword bt br ev et =
    let one = at_space x tail (c ++ a) bt ev in
    let two = at_space x rest (c ++ b) br et in
    Past c (c ++ a) (c ++ b) refl one.1 two.1 (ap (λ (y : ℕ). y ∷ c) one.0) refl refl
common [] (y ∷ word) tail rest (x ∷ c) a b pw pword bt br ev et =
    let one = at_space x tail (c ++ a) bt ev in
    no_space_in y word pword (head_same y x (word ++ rest) (c ++ b) et ∙ one.0)
common (z ∷ w) [] tail rest (x ∷ c) a b pw pword bt br ev et =
    let two = at_space x rest (c ++ b) br et in
    no_space_in z w pw (head_same z x (w ++ tail) (c ++ a) ev ∙ two.0)
common (z ∷ w) (y ∷ word) tail rest (x ∷ c) a b pw pword bt br ev et =
    wrap (common w word tail rest c a b (both (isnt_space z) (list_all isnt_space w) pw).1 (both (isnt_space y) (list_all isnt_space word) pword).1 bt br (tail_same z x (w ++ tail) (c ++ a) ev) (tail_same y x (word ++ rest) (c ++ b) et))
    (head_same z x (w ++ tail) (c ++ a) ev) (head_same y x (word ++ rest) (c ++ b) et)
  where
    wrap : Common w word tail rest c a b → z ≡ x → y ≡ x → Common (z ∷ w) (y ∷ word) tail rest (x ∷ c) a b
    wrap (Within d ew e eword) zx yx =
        Within d (ap (λ (u : ℕ). u ∷ w) zx ∙ ap (λ (l : List ℕ). x ∷ l) ew) e (ap (λ (u : ℕ). u ∷ word) yx ∙ ap (λ (l : List ℕ). x ∷ l) eword)
    wrap (Past next one two ew etail erest ec ea eb) zx yx =
        Past next one two (ap (λ (u : ℕ). u ∷ w) (zx ∙ sym yx) ∙ ap (λ (l : List ℕ). y ∷ l) ew) etail erest
        (ap (λ (u : ℕ). u ∷ c) (sym yx) ∙ ap (λ (l : List ℕ). y ∷ l) ec) ea eb
