-- What a program that plays a script writes.
use Rattle.std.proofs.Common.{◌≡◌, ◌≢◌, ◌<◌, ℕ, List, take, length, Option, Some, None, IfOk, IfSome, Result, Ok, Err, refl, sym, subst, ◌∙◌, string_bytes, inl, inr, Bor, arith}
use Rattle.std.specs.Fn.{Shared, FnReturns}
use Rattle.std.specs.Io.KnownBytes.{Appends}
use Rattle.std.specs.declared.string.String.{String}
use Rattle.lat_script.specs.Runs.{IsAnswer, IsPrinted, Prints, Wrote, WrotePart}

-- a call that gave a text printed it of its script
pub printed_ok : {F A E : Type 0} (g : Shared F (A × (Bor (List ℕ) × Unit {0})) (Result (String A) E)) (f : F) (alloc : A) (shown : Bor (List ℕ)) (input : List ℕ) (r : Result (String A) E) → g.post f (alloc, (shown, tt)) r → shown.now ≡ input → IfOk r (λ text. IsPrinted (Prints g f alloc) input (string_bytes text))
printed_ok g f alloc shown input (Ok made) says shows = inl (record { shown = shown; shows = shows; made = made; says = record { met = says }; printed = refl })
printed_ok g f alloc shown input (Err e) says shows = tt

-- what holds of all that was read holds of what the source had, where it tells it
of_input : (P Q : List ℕ → Type 0) (left : Option (List ℕ)) (all : List ℕ) → IfSome left (λ xs. (all ≡ xs) × P xs) → Q all → IfSome left Q
of_input P Q None all is holds = tt
of_input P Q (Some xs) all is holds = subst Q is.0 holds

-- a text that was written whole
pub wrote : (PrintsOf : List ℕ → List ℕ → Type 0) (P : List ℕ → Type 0) (status : ℕ) (left old new : Option (List ℕ)) (all shown text told : List ℕ) → shown ≡ all → told ≡ text → IfSome left (λ xs. (all ≡ xs) × P xs) → IsPrinted PrintsOf shown text → (status ≢ 5 → (status ≡ 0) × Appends old new told) → status ≡ 0 → Wrote (λ t. IfSome left (λ xs. IsPrinted PrintsOf xs t)) old new
wrote PrintsOf P status left old new all shown text told e w read printed written zero = record {
  text = text;
  is = of_input P (λ xs. IsPrinted PrintsOf xs text) left all read (subst (λ xs. IsPrinted PrintsOf xs text) e printed);
  written = subst (Appends old new) w (written (λ five. omega (arith, zero, five))).1;
}

-- a text of which a part was written
pub wrote_part : (PrintsOf : List ℕ → List ℕ → Type 0) (P : List ℕ → Type 0) (status : ℕ) (left old new : Option (List ℕ)) (all shown text told : List ℕ) → shown ≡ all → told ≡ text → IfSome left (λ xs. (all ≡ xs) × P xs) → IsPrinted PrintsOf shown text → (status ≡ 5 → (n : ℕ) × Appends old new (take n told)) → status ≡ 5 → WrotePart (λ t. IfSome left (λ xs. IsAnswer PrintsOf xs t)) old new
wrote_part PrintsOf P status left old new all shown text told e w read printed part five =
    let p : (n : ℕ) × Appends old new (take n told) = part five in
    record {
      text = text;
      is = of_input P (λ xs. IsAnswer PrintsOf xs text) left all read (subst (λ xs. IsAnswer PrintsOf xs text) e (inl printed));
      count = p.0;
      written = subst (λ t. Appends old new (take p.0 t)) w p.1;
    }
