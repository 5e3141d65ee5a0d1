-- The rates of the words tell fullness, and are steady.
use Rattle.std.proofs.Common.{◌≡◌, ◌≤◌, ◌*◌, ◌-◌, ◌↔◌, ℕ, zero, suc, min, max, refl, ap, ◌∙◌, rules, arith}
use Rattle.std.proofs.Math.Nat.{mul-le-mul_left, one-le-mul}
use Rattle.lat_node.specs.Rules.{TellsFullness}
use Rattle.lat_tariff.specs.Rules.{IsSteady}
use Rattle.lat_words.specs.declared.settings.Rate.{Rate}
use Rattle.lat_words.specs.declared.settings.Rate.TheVariants as rates
use Rattle.lat_live.specs.Rated.{rated}

-- a product of the free lines, 255 at most, is 0 exactly where no line is free
full_by : (p free used lines rating : ℕ) → (1 ≤ free → 1 ≤ p) → (free ≡ 0 → p ≡ 0) → free ≡ lines - used → used ≤ lines →
    rating ≡ min p 255 → (rating ≡ 0) ↔ (used ≡ lines)
full_by p zero used lines rating some none is within e = (λ z. omega (arith, is, within), λ s. e ∙ ap (λ q. min q 255) (none refl))
full_by p (suc free) used lines rating some none is within e =
    (λ z. absurd (omega (arith, some (omega arith), e, z)), λ s. absurd (omega (arith, is, s)))

each_full : (k : ℕ) → 1 ≤ k → TellsFullness (λ used lines rating. rating ≡ min (k * (lines - used)) 255)
each_full k some used lines rating within few e =
    full_by (k * (lines - used)) (lines - used) used lines rating (λ free. one-le-mul some free) (λ none. ap (λ q. k * q) none ∙ omega arith) refl within e

each_steady : (k : ℕ) → IsSteady (λ used lines rating. rating ≡ min (k * (lines - used)) 255)
each_steady k used later lines rating below less within few e e' =
    let more : k * (lines - later) ≤ k * (lines - used) = mul-le-mul_left k (omega (arith, less)) in
    omega (arith, more, e, e')

pub rated_full : (rate : Rate) → TellsFullness (λ used lines rating. rating ≡ rated rate used lines)
rated_full rates.Free = search rules
rated_full (rates.Each n) = each_full (max n 1) (omega arith)
rated_full (rates.WhileFree n) = search rules

pub rated_steady : (rate : Rate) → IsSteady (λ used lines rating. rating ≡ rated rate used lines)
rated_steady rates.Free = search rules
rated_steady (rates.Each n) = each_steady (max n 1)
rated_steady (rates.WhileFree n) = search rules
