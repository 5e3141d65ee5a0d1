-- What is left of what runs out.
use Rattle.std.proofs.Common.{◌≡◌, ◌≤◌, ℕ, Bool, true, false, true≢false, ◌&&◌, not, List, [], ◌∷◌, ◌++◌, Some, None, Option, refl, sym, arith}
use Rattle.std.specs.Prelude.{length, if◌then◌else◌}
use Rattle.std.proofs.lemmas.Bool.Decides.{nat_tests}
use Rattle.lat_log.specs.LeftNews.{are_few, ids_news, left_news, records_news}
use Rattle.lat_log.specs.Laws.{FewAreSaidOnce, NeverRise, last_from, said_of}
use Rattle.lat_log.specs.declared.entry.Entry.{Entry}
use Rattle.lat_log.specs.declared.entry.Entry.TheVariants.{IdsLeft, RecordsLeft}
use Rattle.lat_log.specs.declared.left.Left.{Left}

-- ---- what stays

not_both : (b : Bool) → (not b && b) ≡ false
not_both true = refl
not_both false = refl

ids_still : (count : ℕ) → ids_news count count ≡ []
ids_still count = rw (not_both (are_few count)) refl

records_still : (count : Option ℕ) → records_news count count ≡ []
records_still None = refl
records_still (Some count) = rw (not_both (are_few count)) refl

pub left_silent : (left : Left) → left_news left left ≡ []
left_silent left = rw (ids_still left.ids, records_still left.records) refl

-- ---- what falls

abbrev said : (ℕ → Entry) → ℕ → ℕ → List Entry
said entry old now = if not (are_few old) && are_few now then entry now ∷ [] else []

few_below : (high low : ℕ) → low ≤ high → are_few high ≡ true → are_few low ≡ true
few_below high low below few = grind (arith, nat_tests)

never_above : (first : ℕ) (later : List ℕ) → NeverRise first later → last_from first later ≤ first
never_above first [] falls = omega arith
never_above first (next ∷ later) falls = omega (arith, falls.0, never_above next later falls.1)

-- one step more, by which of the first, the next and the last are few
step : (entry : ℕ → Entry) (first next last : Bool) (now : ℕ) (rest : List Entry) → (first ≡ true → next ≡ true) → (next ≡ true → last ≡ true)
    → length rest ≡ (if not next && last then 1 else 0)
    → length ((if not first && next then entry now ∷ [] else []) ++ rest) ≡ (if not first && last then 1 else 0)
step entry true true last now rest a b is = is
step entry true false last now rest a b is = absurd (true≢false (sym (a refl)))
step entry false true true now rest a b is =
    let none : length rest ≡ 0 = is in
    omega (arith, none)
step entry false true false now rest a b is = absurd (true≢false (sym (b refl)))
step entry false false last now rest a b is = is

once : (entry : ℕ → Entry) (first : ℕ) (later : List ℕ) → NeverRise first later
    → length (said_of (said entry) first later) ≡ (if not (are_few first) && are_few (last_from first later) then 1 else 0)
once entry first [] falls = rw (not_both (are_few first)) refl
once entry first (next ∷ later) falls =
    step entry (are_few first) (are_few next) (are_few (last_from next later)) next (said_of (said entry) next later)
    (few_below first next falls.0) (few_below next (last_from next later) (never_above next later falls.1)) (once entry next later falls.1)

pub few_are_said_once : FewAreSaidOnce
few_are_said_once = (once IdsLeft, once RecordsLeft)
