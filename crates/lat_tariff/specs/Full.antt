-- A tariff tells fullness, where its rules are known.
use Rattle.std.specs.Prelude.{◌≡◌, ℕ, zero, suc, ◌-◌, min, List, [], ◌∷◌, length, Some, slice_get}
use Rattle.std.proofs.Common.{subst}
use Rattle.std.proofs.lemmas.Option.{none-some, same_Some}
use Rattle.lat_node.specs.Rules.{TellsFullness}
use Rattle.lat_tariff.specs.declared.tariff.Rule.{Rule}
use Rattle.lat_tariff.specs.Tariffs.{AreKnown, MayAt}

known_at : {R : Type 0} (fact : R → Type 0) (rules : List (Rule R)) (at : ℕ) (r : Rule R) → AreKnown fact rules → slice_get rules at ≡ Some r → fact r.rule
known_at fact [] at r known is = absurd (none-some r is)
known_at {R = R} fact (q ∷ rules) zero r known is = subst (λ (x : Rule R). fact x.rule) (same_Some q r is) known.0
known_at fact (q ∷ rules) (suc at) r known is = known_at fact rules at r known.1 is

pub full_at : {R : Type 0} (may : R → ℕ → ℕ → ℕ → Type 0) (fact : R → Type 0) → ((rule : R) → fact rule → TellsFullness (may rule)) →
    (rules : List (Rule R)) → AreKnown fact rules → (place : ℕ) → TellsFullness (MayAt may rules place)
full_at may fact full rules known place used max rating within few given =
    full given.rule.rule (known_at fact rules (min place (length rules - 1)) given.rule known given.found) used max rating within few given.answered
