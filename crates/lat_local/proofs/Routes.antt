-- Which bytes go into a session.
use Rattle.std.proofs.Common.{◌≡◌, ◌≢◌, ℕ, ◌+◌, List, [], ◌∷◌, length, take, refl, arith, sym, ap, ◌∙◌}
use Rattle.std.specs.Prelude.{zero, suc, Bool, true, false, not, nat_lt, Option, Some, None, position, ◌==◌}
use Rattle.std.specs.List.{list_any, position_or_len, prefix_len}
use Rattle.std.proofs.lemmas.Bool.Decides.{nat_tests}
use Rattle.std.proofs.lemmas.List.Sums.{prefix_len-le-length}
use Rattle.std.proofs.lemmas.Bool.{false≢true, true≢false}
use Rattle.lat_local.specs.declared.meaning.Meaning.{Meaning}
use Rattle.lat_local.specs.declared.meaning.Meaning.TheVariants as meanings
use Rattle.lat_local.specs.declared.phase.Phase.{Phase}
use Rattle.lat_local.specs.declared.phase.Phase.TheVariants as phases
use Rattle.lat_local.specs.Laws.{GoesRight, into_session}
use Rattle.lat_local.specs.Meanings.{data_of, escape, meaning_of}
use Rattle.lat_local.specs.Phases.{is_in_session}

abbrev is_typed : Meaning → Bool
is_typed meanings.Typed = true
is_typed _ = false

not_typed : (at : Option ℕ) (bytes : List ℕ) → is_typed (data_of at bytes) ≡ false
not_typed None bytes = refl
not_typed (Some zero) bytes = refl
not_typed (Some (suc n)) bytes = refl

-- none passes a test before the first that does
front_step : (p : ℕ → Bool) (x : ℕ) (xs : List ℕ) (b : Bool) → p x ≡ b → list_any p (take (prefix_len (λ y. not (p y)) xs) xs) ≡ false →
    list_any p (take (prefix_len (λ y. not (p y)) (x ∷ xs)) (x ∷ xs)) ≡ false
front_step p x xs true e h = rw e refl
front_step p x xs false e h =
    let n = prefix_len (λ y. not (p y)) xs in
    let more : list_any p (take (suc n) (x ∷ xs)) ≡ false = rw e h in
    let count : 1 + n ≡ suc n = omega arith in
    rw e (ap (λ k. list_any p (take k (x ∷ xs))) count ∙ more)

front_none : (p : ℕ → Bool) (xs : List ℕ) → list_any p (take (prefix_len (λ y. not (p y)) xs) xs) ≡ false
front_none p [] = refl
front_none p (x ∷ xs) = front_step p x xs (p x) refl (front_none p xs)

data_front : (p : ℕ → Bool) (n : ℕ) (bytes : List ℕ) → list_any p (take n bytes) ≡ false → list_any p (into_session (data_of (Some n) bytes) bytes) ≡ false
data_front p zero bytes h = refl
data_front p (suc n) bytes h = h

by_test : (p : ℕ → Bool) (bytes : List ℕ) (b : Bool) → nat_lt (position_or_len p bytes) (length bytes) ≡ b →
    list_any p (into_session (data_of (position p bytes) bytes) bytes) ≡ false
by_test p bytes true lt = rw lt (data_front p (position_or_len p bytes) bytes (front_none p bytes))
by_test p bytes false lt =
    let le = prefix_len-le-length (λ y. not (p y)) bytes in
    let all : length bytes ≡ position_or_len p bytes = grind (arith, nat_tests) in
    rw lt (ap (λ k. list_any p (take k bytes)) all ∙ front_none p bytes)

before_first : (p : ℕ → Bool) (bytes : List ℕ) → list_any p (into_session (data_of (position p bytes) bytes) bytes) ≡ false
before_first p bytes = by_test p bytes (nat_lt (position_or_len p bytes) (length bytes)) refl

-- where the first byte is control-]
leaves_at : (rest : List ℕ) → data_of (position (λ b. b == escape) (escape ∷ rest)) (escape ∷ rest) ≡ meanings.Escape
leaves_at rest =
    let some : nat_lt (position_or_len (λ b. b == escape) (escape ∷ rest)) (length (escape ∷ rest)) ≡ true = grind (arith, nat_tests) in
    rw some refl

pub goes_right : (p : Phase) (bytes : List ℕ) → GoesRight p bytes
goes_right (phases.Prompt held) bytes = record { outside = λ o. refl; inside = λ i. absurd (false≢true i); escapes = refl; leaves = λ rest i is. absurd (false≢true i) }
goes_right (phases.Connecting service) bytes = record { outside = λ o. refl; inside = λ i. absurd (false≢true i); escapes = refl; leaves = λ rest i is. absurd (false≢true i) }
goes_right (phases.Session peer) bytes = record {
  outside = λ o. absurd (true≢false o);
  inside = λ i e. true≢false (sym (ap is_typed e) ∙ not_typed (position (λ b. b == escape) bytes) bytes);
  escapes = before_first (λ b. b == escape) bytes;
  leaves = λ rest i is. ap (λ bs. meaning_of (phases.Session peer) bs) is ∙ leaves_at rest;
}
goes_right phases.Out bytes = record { outside = λ o. refl; inside = λ i. absurd (false≢true i); escapes = refl; leaves = λ rest i is. absurd (false≢true i) }
