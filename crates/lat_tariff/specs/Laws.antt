-- What holds of the ratings of a tariff.
use Rattle.std.specs.Prelude.{◌≡◌, ℕ, ◌≤◌, ◌<◌, ◌^◌, ◌↔◌, List}
use Rattle.std.specs.List.{AllZip}
use Rattle.lat_base.specs.declared.event.Event.{Event}
use Rattle.lat_base.specs.declared.outbox.OutFrame.{OutFrame}
use Rattle.lat_model.specs.Lists.{Each}
use Rattle.lat_node.specs.Stands.{Machine, Frames}
use Rattle.lat_tariff.specs.declared.tariff.Rule.{Rule}
use Rattle.lat_tariff.specs.Own.{OffersTariff, OwnFrames}
use Rattle.lat_tariff.specs.Tariffs.{AreKnown, AreOwn}

-- By rules of these answers: what a node that offers the services of a tariff may send by the tariff's answers is rated by the
-- services' own rules
abbrev pub OwnRulesRate : {R : Type 0} → (R → ℕ → ℕ → ℕ → Type 0) → (List (Rule R) → ℕ → ℕ → ℕ → ℕ → Type 0) → Type 0
OwnRulesRate {R = R} may tariffs =
    (m : Machine (List (Rule R))) (e : Event) (frames : List OutFrame) →
    OffersTariff m → Frames tariffs m e frames → OwnFrames may m e frames

-- by rules of these answers, of which this must be known, each rating is 0 exactly where all lines were held
abbrev pub OwnRatingsTellFullness : {R : Type 0} → (R → ℕ → ℕ → ℕ → Type 0) → (R → Type 0) → Type 0
OwnRatingsTellFullness {R = R} may fact =
    (rules : List (Rule R)) (held lines : ℕ) (rates : List ℕ) →
    AreKnown fact rules → held ≤ lines → lines < 2 ^ 16 →
    AreOwn may held lines rules rates →
    Each (λ rate. (rate ≡ 0) ↔ (held ≡ lines)) rates

-- of two lists of ratings of the same rules, that with more lines held has no higher rating at any place
abbrev pub MoreHeldRatesNoHigher : {R : Type 0} → (R → ℕ → ℕ → ℕ → Type 0) → (R → Type 0) → Type 0
MoreHeldRatesNoHigher {R = R} may fact =
    (rules : List (Rule R)) (held more lines : ℕ) (rates others : List ℕ) →
    AreKnown fact rules → held < more → more ≤ lines → lines < 2 ^ 16 →
    AreOwn may held lines rules rates → AreOwn may more lines rules others →
    AllZip (λ rate other. other ≤ rate) rates others
