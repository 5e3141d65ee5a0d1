-- A field's text is read as its value, whatever stands behind it.
use Rattle.std.proofs.Common.{◌≡◌, ℕ, zero, suc, ◌+◌, ◌*◌, ◌/◌, ◌%◌, ◌<◌, false, eqb, ltb, List, [], ◌∷◌, ◌++◌, length, Ok, refl, ap, ◌∙◌, arith, append_assoc, length-append}
use Rattle.std.specs.List.{AllByRecursion}
use Rattle.std.proofs.lemmas.List.{take_at, drop_at}
use Rattle.std.proofs.lemmas.Bool.Decides.{nat_tests}
use Rattle.lat_base.specs.Names.{IsName}
use Rattle.lat_base.proofs.NameLemmas.{name_reads}
use Rattle.lat_base.specs.declared.field.Field.{Field}
use Rattle.lat_base.specs.declared.field.Field.TheVariants.{Parameters}
use Rattle.lat_fields.specs.declared.params.Param.{Param}
use Rattle.lat_fields.specs.Reading.{number_at, counted_at, name_at}
use Rattle.lat_fields.specs.ParamsReading.{params_at}
use Rattle.lat_fields.specs.Texts.{number, counted}
use Rattle.lat_fields.specs.Params.{IsEntry, params_text}

not_short : (t rest : List ℕ) → ltb (length (t ++ rest)) (length t) ≡ false
not_short t rest = grind (arith, nat_tests, length-append)

pub number_taken : (f : Field) (place value : ℕ) (rest : List ℕ) → number_at f place (number value ++ rest) ≡ Ok (value, place + 1 + 1, rest)
unfolding number_at
number_taken f place value rest =
    let whole : value % 256 + value / 256 * 256 ≡ value = omega arith in
    ap (λ (n : ℕ). Ok (n, place + 1 + 1, rest)) whole

pub counted_taken : (f : Field) (at place : ℕ) (t rest : List ℕ) → counted_at f at place (counted t ++ rest) ≡ Ok (t, place + 1 + length t, rest)
unfolding counted_at
counted_taken f at place t rest =
    rw (not_short t rest) (λ i. Ok (take_at t rest (length t) refl i, place + 1 + length t, drop_at t rest (length t) refl i))

pub name_taken : (f : Field) (place : ℕ) (t rest : List ℕ) → IsName t → name_at f place (counted t ++ rest) ≡ Ok (t, place + 1 + length t, rest)
unfolding name_at
name_taken f place t rest h = rw (counted_taken f place place t rest, name_reads t h) refl

pub params_taken : (ps : List Param) (most place : ℕ) (rest : List ℕ) → AllByRecursion IsEntry ps → length ps < most
    → params_at most place (params_text ps ++ rest) ≡ Ok (ps, place + length (params_text ps), rest)
unfolding params_at
params_taken ps zero place rest fits more = absurd (omega arith)
params_taken [] (suc most) place rest fits more = refl
params_taken (p ∷ ps) (suc most) place rest fits more =
    let regroup : params_text (p ∷ ps) ++ rest ≡ p.code ∷ (counted p.bytes ++ (params_text ps ++ rest)) = simp append_assoc in
    let some : eqb p.code 0 ≡ false = let h : 0 < p.code = fits.0.code in grind (arith, nat_tests) in
    let at = place + 1 + 1 + length p.bytes in
    let places : at + length (params_text ps) ≡ place + length (params_text (p ∷ ps)) = simp length-append (omega arith) in
    ap (params_at (suc most) place) regroup
    ∙ rw (some, counted_taken Parameters place (place + 1) p.bytes (params_text ps ++ rest), params_taken ps most at rest fits.1 (omega arith)) (ap (λ (n : ℕ). Ok (p ∷ ps, n, rest)) places)

-- there are fewer entries than bytes
pub fewer_entries : (ps : List Param) → length ps < length (params_text ps)
fewer_entries [] = omega arith
fewer_entries (p ∷ ps) = simp length-append (omega (arith, simp length-append at (fewer_entries ps)))
