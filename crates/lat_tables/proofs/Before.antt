-- Services that are offered at a place before.
use Rattle.std.proofs.Common.{◌≡◌, ℕ, suc, ◌-◌, ◌<◌, Bool, true, false, List, refl, sym, ap, ◌∙◌, arith}
use Rattle.std.specs.Prelude.{Option, ◌||◌}
use Rattle.lat_tables.specs.Listings.{names_same, stood_before}

one_back : (f : ℕ → Option (List ℕ)) (name : List ℕ) (place k : ℕ) → place ≡ suc k → stood_before f name place ≡ (names_same (f k) name || stood_before f name k)
one_back f name place k is = rw is refl

-- it isn't the one at the place before, so it is one further before or none
pub passed : (f : ℕ → Option (List ℕ)) (name : List ℕ) (whole : Bool) (place : ℕ) (same : Bool) → 0 < place → same ≡ names_same (f (place - 1)) name → same ≡ false
    → whole ≡ stood_before f name place → whole ≡ stood_before f name (place - 1)
passed f name whole place same some is other was =
    was ∙ one_back f name place (place - 1) (omega (arith, some)) ∙ ap (λ t. t || stood_before f name (place - 1)) (sym is ∙ other)

-- it is the one at the place before
pub found : (f : ℕ → Option (List ℕ)) (name : List ℕ) (whole : Bool) (place : ℕ) (same : Bool) → 0 < place → same ≡ names_same (f (place - 1)) name → same ≡ true
    → whole ≡ stood_before f name place → true ≡ whole
found f name whole place same some is here was =
    sym (was ∙ one_back f name place (place - 1) (omega (arith, some)) ∙ ap (λ t. t || stood_before f name (place - 1)) (sym is ∙ here))
