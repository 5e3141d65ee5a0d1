-- Lines that are read one after another.
use Rattle.std.proofs.Common.{◌≡◌, ◌≢◌, ℕ, ◌+◌, false, List, [], ◌∷◌, ◌++◌, length, refl, sym, ap, ap₂, ◌∙◌, append_assoc, arith}
use Rattle.std.specs.Prelude.{Option, Some, None, Ok, option_map, codes, bytes_eq, ◌==◌}
use Rattle.std.specs.List.{flat_map}
use Rattle.std.proofs.lemmas.Bool.{ne_eqb}
use Rattle.std.proofs.lemmas.List.{append-nil}
use Rattle.lat_model.specs.Lists.{Each}
use Rattle.lat_text.specs.Lines.{Lines, End, Cut, Line, lines_of, no_line, line_feed}
use Rattle.lat_schedule.specs.Places.{Place, Over, Unended, Numbered, numbered, must, many, adds}
use Rattle.lat_schedule.specs.ScheduleText.{word_at}
use Rattle.lat_record.specs.Cursors.{number_of}
use Rattle.lat_schedule.proofs.Many.{said_more, said_none}
use Rattle.lat_schedule.proofs.Words.{IsOneLine, line_ends, same_bytes}

-- the lines of a text, of which the first has this number
abbrev pub at : ℕ → List ℕ → Place
at number text = numbered false number (lines_of text)

pub one : (number : ℕ) (line rest : List ℕ) → IsOneLine line → at number (line ++ line_feed ∷ rest) ≡ Numbered number line (at (number + 1) rest)
one number line rest is = ap (numbered false number) (line_ends line rest is)

-- a line that must stand there
pub must_read : {A : Type 0} (read : List ℕ → Option A) (number : ℕ) (line rest : List ℕ) (said : A) → read line ≡ Some said → IsOneLine line →
    must read (at number (line ++ line_feed ∷ rest)) ≡ Ok (said, at (number + 1) rest)
must_read read number line rest said is one_line = rw (one number line rest one_line, is) refl

pub word_read : (word rest : List ℕ) (number : ℕ) → IsOneLine word → word_at word (at number (word ++ line_feed ∷ rest)) ≡ Ok (at (number + 1) rest)
word_read word rest number is = rw (one number word rest is, same_bytes word) refl

-- each of these lines says one more of a list, behind those before it
abbrev pub Follow : {A : Type 0} → (List A → List ℕ → Option A) → (A → List ℕ) → List A → List A → Type 0
Follow read line before [] = Unit {0}
Follow read line before (x ∷ xs) = (read before (line x) ≡ Some x) × IsOneLine (line x) × Follow read line (before ++ x ∷ []) xs

-- they are read as the list
pub list_read : {A : Type 0} (read : List A → List ℕ → Option A) (text line : A → List ℕ) → ((x : A) → text x ≡ line x ++ codes "\n") →
    (xs before : List A) (number : ℕ) (rest : List ℕ) → Follow read line before xs →
    many (adds read) before (at number (flat_map text xs ++ rest)) ≡ many (adds read) (before ++ xs) (at (number + length xs) rest)
list_read read text line same [] before number rest follow =
    ap₂ (λ b n. many (adds read) b (at n rest)) (sym (append-nil before)) (omega arith)
list_read {A = A} read text line same (x ∷ xs) before number rest follow =
    let more : List ℕ = flat_map text xs ++ rest in
    let first : (text x ++ flat_map text xs) ++ rest ≡ line x ++ line_feed ∷ more =
    append_assoc (text x) (flat_map text xs) rest ∙ ap (λ t. t ++ more) (same x) ∙ append_assoc (line x) (codes "\n") more in
    let goes : adds read before number (line x) ≡ Some (before ++ x ∷ []) = ap (option_map (λ y. before ++ y ∷ [])) follow.0 in
    ap (λ t. many (adds read) before (at number t)) first
    ∙ ap (many (adds read) before) (one number (line x) more follow.1)
    ∙ said_more (adds read) before (before ++ x ∷ []) number (line x) (at (number + 1) more) goes
    ∙ list_read read text line same xs (before ++ x ∷ []) (number + 1) rest follow.2
    ∙ ap₂ (λ b n. many (adds read) b (at n rest)) (append_assoc before (x ∷ []) xs) (omega arith)

-- a line that says no more ends the list
pub list_ends : {A : Type 0} (read : List A → List ℕ → Option A) (xs : List A) (number : ℕ) (line rest : List ℕ) → read xs line ≡ None → IsOneLine line →
    many (adds read) xs (at number (line ++ line_feed ∷ rest)) ≡ (xs, at number (line ++ line_feed ∷ rest))
list_ends read xs number line rest none is =
    ap (many (adds read) xs) (one number line rest is)
    ∙ said_none (adds read) xs number line (at (number + 1) rest) (ap (option_map (λ y. xs ++ y ∷ [])) none)
    ∙ ap (λ p. (xs, p)) (sym (one number line rest is))

-- bytes that no line feed ends
pub cut_lines : (cut : List ℕ) → Each (λ b. b ≢ line_feed) cut → lines_of cut ≡ no_line cut
cut_lines [] h = refl
cut_lines (b ∷ []) h =
    let other : (b == line_feed) ≡ false = ne_eqb b line_feed h.0 in
    rw other refl
cut_lines (b ∷ c ∷ cut) h =
    let other : (b == line_feed) ≡ false = ne_eqb b line_feed h.0 in
    rw (other, cut_lines (c ∷ cut) h.1) refl

-- the number of the next line
pub number_at : (number : ℕ) (lines : Lines) → number_of (numbered false number lines) ≡ number
number_at number End = refl
number_at number Cut = refl
number_at number (Line line more) = refl
