-- How a record grows, and how it is written.
use Rattle.std.proofs.Common.{◌≡◌, ℕ, List, [], ◌∷◌, ◌++◌, take, drop, refl, sym, ap, ap₂, subst, ◌∙◌, append_assoc}
use Rattle.std.specs.List.{flat_map}
use Rattle.std.proofs.lemmas.List.{append-nil, take-append-drop}
use Rattle.lat_model.specs.Lists.{IsPrefixOf}
use Rattle.lat_past.specs.declared.past.Past.{Past}
use Rattle.lat_record.specs.declared.opening.Opening.{Opening}
use Rattle.lat_record.specs.declared.recorder.Recording.{Recording}
use Rattle.lat_record.specs.declared.recorder.Recording.TheVariants.{On, Over}
use Rattle.lat_record.specs.OpeningText.{opening_text}
use Rattle.lat_record.specs.Recorders.{AllWritten, IsRecord, SomeWritten}
use Rattle.lat_record.specs.RecordText.{entry_text, record_text}

entries_push : (history : List Past) (p : Past) → flat_map entry_text (history ++ p ∷ []) ≡ flat_map entry_text history ++ entry_text p
entries_push [] p = append-nil (entry_text p)
entries_push (q ∷ history) p =
    ap (λ t. entry_text q ++ t) (entries_push history p) ∙ sym (append_assoc (entry_text q) (flat_map entry_text history) (entry_text p))

-- a record with one event more
pub record_push : (o : Opening) (history : List Past) (p : Past) → record_text o (history ++ p ∷ []) ≡ record_text o history ++ entry_text p
record_push o history p =
    ap (λ t. opening_text o ++ t) (entries_push history p) ∙ sym (append_assoc (opening_text o) (flat_map entry_text history) (entry_text p))

-- one whose line is to be written
pub grows_on : (text rest whole line whole' : List ℕ) → text ++ rest ≡ whole → whole' ≡ whole ++ line → text ++ (rest ++ line) ≡ whole'
grows_on text rest whole line whole' is more = sym (append_assoc text rest line) ∙ ap (λ t. t ++ line) is ∙ sym more

-- one whose line isn't
pub grows_over : (state : Recording) (now whole line whole' : List ℕ) → IsRecord state now whole → whole' ≡ whole ++ line → IsPrefixOf now whole'
grows_over On now whole line whole' is more = (line, ap (λ t. t ++ line) is ∙ sym more)
grows_over Over now whole line whole' is more = (is.0 ++ line, sym (append_assoc now is.0 line) ∙ ap (λ t. t ++ line) is.1 ∙ sym more)

-- all of what was to be written was, or some of it
pub flushed_on : (text rest whole : List ℕ) → text ++ rest ≡ whole → (text ++ rest) ++ [] ≡ whole
flushed_on text rest whole is = append-nil (text ++ rest) ∙ is

pub flushed_over : (count : ℕ) (text rest whole : List ℕ) → text ++ rest ≡ whole → IsPrefixOf ((text ++ take count rest) ++ []) whole
flushed_over count text rest whole is = (
  drop count rest,
  ap (λ t. t ++ drop count rest) (append-nil (text ++ take count rest))
      ∙ append_assoc text (take count rest) (drop count rest)
      ∙ ap (λ t. text ++ t) (take-append-drop count rest)
      ∙ is,
)

-- a record behind one event more
pub grows : (state state' : Recording) (text rest rest' : List ℕ) (o : Opening) (history history' : List Past) (p : Past) →
    IsRecord state (text ++ rest) (record_text o history) → history' ≡ history ++ p ∷ [] → (state' ≡ On → (state ≡ On) × (rest' ≡ rest ++ entry_text p)) →
    (state' ≡ Over → rest' ≡ rest) → IsRecord state' (text ++ rest') (record_text o history')
grows state On text rest rest' o history history' p is more on over =
    let both = on refl in
    ap (λ t. text ++ t) both.1
    ∙ grows_on text rest (record_text o history) (entry_text p) (record_text o history') (subst (λ s. IsRecord s (text ++ rest) (record_text o history)) both.0 is)
    (ap (record_text o) more ∙ record_push o history p)
grows state Over text rest rest' o history history' p is more on over =
    subst (λ (t : List ℕ). IsPrefixOf (text ++ t) (record_text o history')) (sym (over refl))
    (grows_over state (text ++ rest) (record_text o history) (entry_text p) (record_text o history') is (ap (record_text o) more ∙ record_push o history p))

-- a record of which what was to be written was, or some of it
pub flushed : (state state' : Recording) (text rest text' rest' whole : List ℕ) → IsRecord state (text ++ rest) whole →
    (state' ≡ On → AllWritten state text rest text' rest') → (state ≡ On → state' ≡ Over → SomeWritten text rest text' rest') →
    (state ≡ Over → (text' ≡ text) × (rest' ≡ rest)) → IsRecord state' (text' ++ rest') whole
flushed state On text rest text' rest' whole is all some stays =
    let a = all refl in
    ap₂ (λ (t u : List ℕ). t ++ u) a.grew a.none ∙ flushed_on text rest whole (subst (λ s. IsRecord s (text ++ rest) whole) a.before is)
flushed On Over text rest text' rest' whole is all some stays =
    let a = some refl refl in
    subst (λ (t : List ℕ). IsPrefixOf t whole) (sym (ap₂ (λ (t u : List ℕ). t ++ u) a.grew a.none)) (flushed_over a.count text rest whole is)
flushed Over Over text rest text' rest' whole is all some stays =
    let a = stays refl in
    subst (λ (t : List ℕ). IsPrefixOf t whole) (sym (ap₂ (λ (t u : List ℕ). t ++ u) a.0 a.1)) is
