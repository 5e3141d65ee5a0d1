-- The bytes of a name, read from left to right.
use Rattle.std.proofs.Common.{◌≡◌, ℕ, zero, suc, true, false, List, [], ◌∷◌, ◌++◌, length, append_assoc, refl, sym, ap, ◌∙◌, arith}
use Rattle.std.specs.Prelude.{Option, Some, None, option_map, option_and_then, ◌==◌}
use Rattle.std.specs.Result.{result_ok}
use Rattle.std.proofs.lemmas.List.{append-nil}
use Rattle.std.proofs.lemmas.Bool.Decides.{nat_tests}
use Rattle.lat_base.specs.Names.{name_read}
use Rattle.lat_words.specs.NameTexts.{first_byte, bytes_written, named}

-- bytes in front of those that a text writes
abbrev pub with_front : List ℕ → Option (List ℕ) → Option (List ℕ)
with_front front found = option_map (λ bytes. front ++ bytes) found

front_more : (front : List ℕ) (b : ℕ) (found : Option (List ℕ)) → with_front front (option_map (λ bytes. b ∷ bytes) found) ≡ with_front (front ++ b ∷ []) found
front_more front b None = refl
front_more front b (Some bytes) = ap Some (sym (append_assoc front (b ∷ []) bytes))

-- the text's first byte goes in front
pub byte_before : (most next b : ℕ) (front new rest behind : List ℕ) → most ≡ suc next → first_byte rest ≡ Some (b, behind) → new ≡ front ++ b ∷ []
    → with_front front (bytes_written most rest) ≡ with_front new (bytes_written next behind)
byte_before most next b front new [] behind is found added = absurd (let differ : None ≡ Some (b, behind) = found in cc)
byte_before most next b front new (x ∷ rest) behind is found added =
    ap (λ k. with_front front (bytes_written k (x ∷ rest))) is
    ∙ ap (λ first. with_front front (option_and_then (λ f. option_map (λ bytes. f.0 ∷ bytes) (bytes_written next f.1)) first)) found
    ∙ front_more front b (bytes_written next behind)
    ∙ ap (λ bytes. with_front bytes (bytes_written next behind)) (sym added)

-- a text without a first byte writes none, nor does one where no further byte may come
pub no_byte : (text front rest : List ℕ) (most : ℕ) → bytes_written 16 text ≡ with_front front (bytes_written most rest) → (length rest == 0) ≡ false → first_byte rest ≡ None → None ≡ named text
no_byte text front [] most so_far some none = absurd (let differ : true ≡ false = some in cc)
no_byte text front (x ∷ rest) zero so_far some none = ap (option_and_then (λ bytes. result_ok (name_read bytes))) (sym so_far)
no_byte text front (x ∷ rest) (suc most) so_far some none =
    ap (option_and_then (λ bytes. result_ok (name_read bytes)))
    (sym (so_far ∙ ap (λ first. with_front front (option_and_then (λ f. option_map (λ bytes. f.0 ∷ bytes) (bytes_written most f.1)) first)) none))

pub too_many : (text front rest : List ℕ) (most : ℕ) → bytes_written 16 text ≡ with_front front (bytes_written most rest) → (length rest == 0) ≡ false → most ≡ 0 → None ≡ named text
too_many text front [] most so_far some none = absurd (let differ : true ≡ false = some in cc)
too_many text front (x ∷ rest) most so_far some none =
    ap (option_and_then (λ bytes. result_ok (name_read bytes))) (sym (so_far ∙ ap (λ k. with_front front (bytes_written k (x ∷ rest))) none))

written_none : (most : ℕ) (rest : List ℕ) → (length rest == 0) ≡ true → bytes_written most rest ≡ Some []
written_none most [] none = refl
written_none most (x ∷ rest) none = absurd (grind (arith, nat_tests))

-- all bytes are in front
pub all_bytes : (text front rest : List ℕ) (most : ℕ) → bytes_written 16 text ≡ with_front front (bytes_written most rest) → (length rest == 0) ≡ true → result_ok (name_read front) ≡ named text
all_bytes text front rest most so_far none =
    sym (ap (option_and_then (λ bytes. result_ok (name_read bytes))) (so_far ∙ ap (with_front front) (written_none most rest none) ∙ ap Some (append-nil front)))

pub front_none : (found : Option (List ℕ)) → found ≡ with_front [] found
front_none None = refl
front_none (Some bytes) = refl
