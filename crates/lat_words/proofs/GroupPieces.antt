-- The pieces of a list of groups, from left to right.
use Rattle.std.proofs.Common.{◌≡◌, ◌<◌, ◌+◌, ℕ, Bool, true, false, List, [], ◌∷◌, length, take, drop, refl, ap, ◌∙◌, arith}
use Rattle.std.specs.Prelude.{Option, Some, None, option_and_then, unwrap_or, nat_lt, cond, ◌==◌}
use Rattle.std.specs.List.{position_or_len, slice_split, onto_first}
use Rattle.std.proofs.lemmas.Bool.Decides.{nat_tests}
use Rattle.std.proofs.lemmas.List.Splits.{slice_split_first, slice_split-cons_no}
use Rattle.clap.specs.Words.{Text}
use Rattle.lat_words.specs.Groups.{sign_at, with_piece, with_pieces}

-- the place of the first comma, or the length, and the pieces
abbrev comma_place : Text → ℕ
comma_place text = position_or_len (λ b. b == 0x2c) text

abbrev pub pieces : Text → List Text
pieces text = slice_split (λ b. b == 0x2c) text

found : (b : Bool) (at comma : ℕ) → cond b (Some at) None ≡ Some comma → (b ≡ true) × (Some at ≡ Some comma)
found true at comma h = (refl, h)
found false at comma h = absurd (let differ : None ≡ Some comma = h in cc)

-- a comma ends the first piece
piece_first : (text : Text) (comma : ℕ) → sign_at 0x2c text ≡ Some comma → pieces text ≡ take comma text ∷ pieces (drop (comma + 1) text)
piece_first text comma at =
    let is = found (nat_lt (comma_place text) (length text)) (comma_place text) comma at in
    let within : comma_place text < length text = grind (arith, nat_tests) in
    slice_split_first (λ b. b == 0x2c) text 0 within
    ∙ ap (λ (r : Option ℕ). take (unwrap_or r 0) text ∷ pieces (drop (unwrap_or r 0 + 1) text)) is.1

nothing_found : (b : Bool) (at : ℕ) → cond b (Some at) None ≡ None → b ≡ false
nothing_found true at h = absurd (let differ : Some at ≡ None = h in cc)
nothing_found false at h = refl

one_more : (b : Bool) (x : ℕ) (xs : Text) → (x == 0x2c) ≡ b → (nat_lt (comma_place xs) (length xs) ≡ false → pieces xs ≡ xs ∷ [])
    → nat_lt (comma_place (x ∷ xs)) (length (x ∷ xs)) ≡ false → pieces (x ∷ xs) ≡ (x ∷ xs) ∷ []
one_more true x xs is rest none =
    let place : comma_place (x ∷ xs) ≡ 0 = rw is refl in
    absurd (grind (arith, nat_tests))
one_more false x xs is rest none =
    let place : comma_place (x ∷ xs) ≡ 1 + comma_place xs = rw is refl in
    let behind : nat_lt (comma_place xs) (length xs) ≡ false = grind (arith, nat_tests) in
    slice_split-cons_no (λ b. b == 0x2c) x xs is ∙ ap (onto_first x) (rest behind)

whole : (text : Text) → nat_lt (comma_place text) (length text) ≡ false → pieces text ≡ text ∷ []
whole [] none = refl
whole (x ∷ xs) none = one_more (x == 0x2c) x xs refl (whole xs) none

some_again : (r : Option (List ℕ)) → option_and_then (λ next. Some next) r ≡ r
some_again (Some mask) = refl
some_again None = refl

-- a piece in front of a comma
pub piece_next : (comma : ℕ) (mask next : List ℕ) (text : Text) → sign_at 0x2c text ≡ Some comma → with_piece mask (take comma text) ≡ Some next
    → with_pieces mask (pieces text) ≡ with_pieces next (pieces (drop (comma + 1) text))
piece_next comma mask next text at piece =
    ap (with_pieces mask) (piece_first text comma at)
    ∙ ap (λ (r : Option (List ℕ)). option_and_then (λ m. with_pieces m (pieces (drop (comma + 1) text))) r) piece

-- a piece that is none ends them
pub piece_none : (comma : ℕ) (mask : List ℕ) (text : Text) → sign_at 0x2c text ≡ Some comma → with_piece mask (take comma text) ≡ None
    → with_pieces mask (pieces text) ≡ None
piece_none comma mask text at piece =
    ap (with_pieces mask) (piece_first text comma at)
    ∙ ap (λ (r : Option (List ℕ)). option_and_then (λ m. with_pieces m (pieces (drop (comma + 1) text))) r) piece

-- the last piece
pub piece_last : (mask : List ℕ) (text : Text) → sign_at 0x2c text ≡ None → with_pieces mask (pieces text) ≡ with_piece mask text
piece_last mask text at =
    ap (with_pieces mask) (whole text (nothing_found (nat_lt (comma_place text) (length text)) (comma_place text) at))
    ∙ some_again (with_piece mask text)
