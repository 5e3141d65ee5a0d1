-- How a program that plays a script ends, and what it writes.
use Rattle.std.specs.Prelude.{◌≡◌, ℕ, ◌<◌, ◌⊎◌, List, take, length, codes, Option, IfSome, Result, Ok, IsUtf8, string_bytes}
use Rattle.std.specs.Fn.{Shared, FnReturns}
use Rattle.std.specs.Io.KnownBytes.{Appends}
use Rattle.std.specs.declared.string.String.{String}
use denote.Ref.{Bor}

-- nothing was written: a read failed, or no memory was found
abbrev pub IsEarly : ℕ → Type 0
IsEarly status = (status ≡ 4) ⊎ (status ≡ 9)

-- all was written; or a write failed, or the input has too many bytes; or nothing was written
abbrev pub IsStatus : ℕ → Type 0
IsStatus status = (status ≡ 0) ⊎ (status ≡ 5) ⊎ (status ≡ 6) ⊎ IsEarly status

-- the program prints this text of this script
pub record Prints {F A E : Type 0} (g : Shared F (A × (Bor (List ℕ) × Unit {0})) (Result (String A) E))
    (f : F) (alloc : A) (script text : List ℕ) : Type 0 where
  pub shown : Bor (List ℕ)
  pub shows : shown.now ≡ script
  pub made : String A
  pub says : FnReturns g f (alloc, (shown, tt)) (Ok made)
  pub printed : string_bytes made ≡ text

-- the text is what is printed of the input as a script, or says that the input is no text
abbrev pub IsPrinted : (List ℕ → List ℕ → Type 0) → List ℕ → List ℕ → Type 0
IsPrinted PrintsOf input text = PrintsOf input text ⊎ ((¬ IsUtf8 input) × (text ≡ codes "no text\n"))

-- the text is printed of the input, or says that the input has too many bytes
abbrev pub IsAnswer : (List ℕ → List ℕ → Type 0) → List ℕ → List ℕ → Type 0
IsAnswer PrintsOf input text = IsPrinted PrintsOf input text ⊎ ((16777216 < length input) × (text ≡ codes "limit bytes\n"))

-- all of such a text was written
pub record Wrote (IsText : List ℕ → Type 0) (old new : Option (List ℕ)) : Type 0 where
  pub text : List ℕ
  pub is : IsText text
  pub written : Appends old new text

-- so much of such a text was written, from its beginning
pub record WrotePart (IsText : List ℕ → Type 0) (old new : Option (List ℕ)) : Type 0 where
  pub text : List ℕ
  pub is : IsText text
  pub count : ℕ
  pub written : Appends old new (take count text)
