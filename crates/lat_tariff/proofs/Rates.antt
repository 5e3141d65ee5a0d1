-- What is known of the rules that come with a tariff, of whichever box.
use Rattle.std.proofs.Common.{rules, ◌≤◌, ℕ}
use Rattle.lat_tariff.specs.Rules.{IsKnown}
use Rattle.lat_tariff.specs.Ratings.{twenty_per_free_line, while_free}

pub twenty_known : IsKnown (Unit {0}) twenty_per_free_line
twenty_known = record { own = tt; full = search rules; steady = search rules }

pub while_free_known : (rating : ℕ) → 1 ≤ rating → IsKnown (1 ≤ rating) (while_free rating)
while_free_known rating some = record { own = some; full = search rules; steady = search rules }
