-- Ratings by the rules' own answers.
use Rattle.std.proofs.Common.{◌≡◌, ℕ, ◌≤◌, ◌-◌, min, refl, sym, ap, ◌∙◌, List, [], ◌∷◌, ◌++◌, map, length, get_or, slice_get, arith}
use Rattle.std.proofs.lemmas.Option.{slice_get_read}
use Rattle.lat_node.specs.Rules.{TellsFullness}
use Rattle.lat_tariff.specs.declared.tariff.Rule.{Rule}
use Rattle.lat_tariff.specs.Rules.{IsSteady}
use Rattle.lat_tariff.specs.Tariffs.{names, MayAt}
use Rattle.lat_tariff.specs.Laws.{OwnRatingsTellFullness, MoreHeldRatesNoHigher}

-- one more

map_more : {A B : Type 0} (f : A → B) (xs : List A) (x : A) → map f (xs ++ x ∷ []) ≡ map f xs ++ f x ∷ []
map_more f [] x = refl
map_more f (y ∷ xs) x = ap (λ ys. f y ∷ ys) (map_more f xs x)

pub names_more : {R : Type 0} (rules more : List (Rule R)) (r : Rule R) → more ≡ rules ++ r ∷ [] → names more ≡ names rules ++ r.name ∷ []
names_more {R = R} rules more r is = ap names is ∙ map_more (λ (x : Rule R). x.name) rules r

-- the rule that is asked is the one of the place
pub rate_at : {R : Type 0} (may : R → ℕ → ℕ → ℕ → Type 0) (rules : List (Rule R)) (place at used max rating : ℕ) (r : Rule R) → 1 ≤ length rules → at ≡ min place (length rules - 1) → r ≡ get_or rules at r →
    may r.rule used max rating → MayAt may rules place used max rating
rate_at may rules place at used max rating r some is got given = record {
  rule = r;
  found = ap (slice_get rules) (sym is) ∙ slice_get_read rules (length rules) at r refl (omega (arith, some, is)) got;
  answered = given;
}

-- the laws

pub own_full : {R : Type 0} (may : R → ℕ → ℕ → ℕ → Type 0) (fact : R → Type 0) → ((rule : R) → fact rule → TellsFullness (may rule)) → OwnRatingsTellFullness may fact
own_full {R = R} may fact full = go
  where
    go : OwnRatingsTellFullness may fact
    go [] held lines [] known within few own = tt
    go [] held lines (x ∷ rates) known within few own = absurd own
    go (r ∷ rules) held lines [] known within few own = absurd own
    go (r ∷ rules) held lines (x ∷ rates) known within few own =
        (full r.rule known.0 held lines x within few own.0, go rules held lines rates known.1 within few own.1)

pub own_steady : {R : Type 0} (may : R → ℕ → ℕ → ℕ → Type 0) (fact : R → Type 0) → ((rule : R) → fact rule → IsSteady (may rule)) → MoreHeldRatesNoHigher may fact
own_steady {R = R} may fact steady = go
  where
    go : MoreHeldRatesNoHigher may fact
    go [] held more lines [] [] known less within few own other = tt
    go [] held more lines (x ∷ rates) others known less within few own other = absurd own
    go [] held more lines [] (y ∷ others) known less within few own other = absurd other
    go (r ∷ rules) held more lines [] others known less within few own other = absurd own
    go (r ∷ rules) held more lines (x ∷ rates) [] known less within few own other = absurd other
    go (r ∷ rules) held more lines (x ∷ rates) (y ∷ others) known less within few own other =
        (steady r.rule known.0 held more lines x y less within few own.0 other.0, go rules held more lines rates others known.1 less within few own.1 other.1)
