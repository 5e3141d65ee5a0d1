-- The loop over parameters.
use Rattle.std.proofs.Common.{◌≡◌, ℕ, suc, true, false, List, [], ◌∷◌, ◌++◌, append_assoc, Result, Ok, Err, refl, sym, ap, ◌∙◌}
use Rattle.std.specs.Prelude.{◌==◌}
use Rattle.lat_base.specs.declared.field.Bad.{Bad}
use Rattle.lat_base.specs.declared.field.Field.TheVariants.{Parameters}
use Rattle.lat_fields.specs.declared.params.Param.{Param}
use Rattle.lat_fields.specs.declared.fault.LayoutFault.{LayoutFault}
use Rattle.lat_fields.specs.declared.fault.LayoutFault.TheVariants as faults
use Rattle.lat_fields.specs.Reading.{◌>>=◌, Fails, byte_at, counted_at}
use Rattle.lat_fields.specs.ParamsReading.{entry, params_at}

-- what was read, behind these
abbrev pub with_front : List Param → Result (List Param × ℕ × List ℕ) Bad → Result (List Param × ℕ × List ℕ) Bad
with_front front read = read >>= (λ x. Ok (front ++ x.0, x.1, x.2))

with_front-more : (front : List Param) (e : Param) (read : Result (List Param × ℕ × List ℕ) Bad) → with_front (front ++ e ∷ []) read ≡ with_front front (read >>= (λ more. Ok (e ∷ more.0, more.1, more.2)))
with_front-more front e (Ok x) = ap (λ es. Ok (es, x.1, x.2)) (append_assoc front (e ∷ []) x.0)
with_front-more front e (Err b) = refl

-- the list ends
pub ends : (front : List Param) (k n at : ℕ) (bytes : List ℕ) (code behind : ℕ) (rest : List ℕ) (all : Result (List Param × ℕ × List ℕ) Bad)
    → with_front front (params_at n at bytes) ≡ all → n ≡ suc k → byte_at Parameters at at bytes ≡ Ok (code, behind, rest) → (code == 0) ≡ true → all ≡ Ok (front ++ [], behind, rest)
unfolding params_at
ends front k n at bytes code behind rest all same is read zero =
    sym same ∙ ap (λ m. with_front front (params_at m at bytes)) is ∙ rw (read, zero) refl

-- an entry more
pub goes_on : (front : List Param) (k n at : ℕ) (bytes : List ℕ) (code behind : ℕ) (rest : List ℕ) (text : List ℕ) (next : ℕ) (others : List ℕ) (all : Result (List Param × ℕ × List ℕ) Bad)
    → with_front front (params_at n at bytes) ≡ all → n ≡ suc k → byte_at Parameters at at bytes ≡ Ok (code, behind, rest) → (code == 0) ≡ false
    → counted_at Parameters at behind rest ≡ Ok (text, next, others) → with_front (front ++ entry code text ∷ []) (params_at k next others) ≡ all
unfolding params_at
goes_on front k n at bytes code behind rest text next others all same is read more text_is =
    with_front-more front (entry code text) (params_at k next others)
    ∙ sym (sym same ∙ ap (λ m. with_front front (params_at m at bytes)) is ∙ rw (read, more, text_is) refl)

-- a fault at the code
pub no_code : (e : LayoutFault) (front : List Param) (k n at : ℕ) (bytes : List ℕ) (all : Result (List Param × ℕ × List ℕ) Bad)
    → with_front front (params_at n at bytes) ≡ all → n ≡ suc k → Fails e (byte_at Parameters at at bytes) → Fails e all
unfolding params_at
no_code faults.Memory front k n at bytes all same is read = tt
no_code (faults.Bad b) front k n at bytes all same is read = sym same ∙ ap (λ m. with_front front (params_at m at bytes)) is ∙ rw read refl

-- a fault in the text behind it
pub no_text : (e : LayoutFault) (front : List Param) (k n at : ℕ) (bytes : List ℕ) (code behind : ℕ) (rest : List ℕ) (all : Result (List Param × ℕ × List ℕ) Bad)
    → with_front front (params_at n at bytes) ≡ all → n ≡ suc k → byte_at Parameters at at bytes ≡ Ok (code, behind, rest) → (code == 0) ≡ false
    → Fails e (counted_at Parameters at behind rest) → Fails e all
unfolding params_at
no_text faults.Memory front k n at bytes code behind rest all same is read more text = tt
no_text (faults.Bad b) front k n at bytes code behind rest all same is read more text = sym same ∙ ap (λ m. with_front front (params_at m at bytes)) is ∙ rw (read, more, text) refl
