-- Each rating that the rule may give tells whether all lines are held.
use Rattle.std.proofs.Common.{◌≡◌, ℕ, ◌↔◌}
use Rattle.lat_machines.specs.cores.Lines.{used}
use Rattle.lat_node.specs.Places.{asked_places}
use Rattle.lat_node.specs.Rules.{TellsFullness}
use Rattle.lat_node.specs.Laws.{RatingsTellFullness}
use Rattle.lat_node.proofs.CountLemmas.{rates_each}

pub fullness : {H : Type 0} (may : H → ℕ → ℕ → ℕ → ℕ → Type 0) (fact : H → Type 0) → ((rule : H) → fact rule → (place : ℕ) → TellsFullness (may rule place)) → RatingsTellFullness may fact
fullness may fact full rule config s e rates known few within are =
    rates_each (λ r. (r ≡ 0) ↔ (used s.core ≡ config.lines)) (may rule) (used s.core) config.lines (asked_places config s e) rates
    (λ place r m. full rule known place (used s.core) config.lines r within few m) are
