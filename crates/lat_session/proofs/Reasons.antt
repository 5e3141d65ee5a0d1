-- The reasons of the rejects that wait.
use Rattle.std.proofs.Common.{ℕ, ◌≤◌, Bool, true, false, not, cond, List, map, filter, get_or, All}
use Rattle.std.proofs.lemmas.List.Elements.{All-filter, All-map}
use Rattle.lat_session.specs.Table.{reason_of, waits_as}
use Rattle.lat_session.specs.declared.ask.Ask.{Ask}
use Rattle.lat_session.specs.declared.ask.Ask.TheVariants.{Rejected}

-- one ask is taken out
pub left_reasons : (id : ℕ) (xs : List Ask) → All (λ a. reason_of a ≤ 15) xs → All (λ a. reason_of a ≤ 15) (filter (λ a. not (waits_as id a)) xs)
left_reasons id xs h = All-filter (λ a. not (waits_as id a)) (λ a. reason_of a ≤ 15) xs h

-- one ask is rejected
pub turned_reasons : (id p r : ℕ) (xs : List Ask) → r ≤ 15 → All (λ a. reason_of a ≤ 15) xs → All (λ a. reason_of a ≤ 15) (map (λ a. cond (waits_as id a) (Rejected p r) a) xs)
turned_reasons id p r xs h all =
    All-map (λ a. reason_of a ≤ 15) (λ a. cond (waits_as id a) (Rejected p r) a) xs (λ k d l. go (get_or xs k d) (waits_as id (get_or xs k d)) (all k d l))
  where
    go : (a : Ask) (b : Bool) → reason_of a ≤ 15 → reason_of (cond b (Rejected p r) a) ≤ 15
    go a true i = h
    go a false i = i
