-- Tariffs: a rule for each service.
use Rattle.std.specs.Prelude.{◌≡◌, ℕ, ◌≤◌, ◌-◌, min, Bool, true, not, ◌&&◌, List, [], ◌∷◌, map, length, Option, Some, slice_get}
use Rattle.std.specs.List.{list_any, AllByRecursion, AllZip}
use Rattle.lat_machines.specs.values.Names.{Name, same}
use Rattle.lat_tariff.specs.declared.tariff.Rule.{Rule}

abbrev pub names : {R : Type 0} → List (Rule R) → List Name
names {R = R} rules = map (λ (r : Rule R). r.name) rules

-- one of the rules is for this service
abbrev pub is_named : {R : Type 0} → Name → List (Rule R) → Bool
is_named {R = R} name rules = list_any (λ (r : Rule R). same name r.name) rules

-- no two of the rules are for the same service
abbrev pub are_apart : {R : Type 0} → List (Rule R) → Bool
are_apart [] = true
are_apart (r ∷ rules) = not (is_named r.name rules) && are_apart rules

pub record IsTariff {R : Type 0} (rules : List (Rule R)) : Type 0 where
  pub some : 1 ≤ length rules
  pub few : length rules ≤ 32
  pub apart : are_apart rules ≡ true

-- this is known of each rule
abbrev pub AreKnown : {R : Type 0} → (R → Type 0) → List (Rule R) → Type 0
AreKnown {R = R} fact rules = AllByRecursion (λ (r : Rule R). fact r.rule) rules

-- the ratings are answers of the rules at the same places, where so many lines are used
abbrev pub AreOwn : {R : Type 0} → (R → ℕ → ℕ → ℕ → Type 0) → (used max : ℕ) → List (Rule R) → (rates : List ℕ) → Type 0
AreOwn {R = R} may used max rules rates = AllZip (λ (r : Rule R) rate. may r.rule used max rate) rules rates

-- the rule at a place, counted from 0; behind the last one's place, the last one
abbrev pub rule_at : {R : Type 0} → List (Rule R) → ℕ → Option (Rule R)
rule_at rules place = slice_get rules (min place (length rules - 1))

-- the rating is an answer of the rule at this place, where so many lines are used
pub record MayAt {R : Type 0} (may : R → ℕ → ℕ → ℕ → Type 0) (rules : List (Rule R)) (place used max rating : ℕ) : Type 0 where
  pub rule : Rule R
  pub found : rule_at rules place ≡ Some rule
  pub answered : may rule.rule used max rating
