-- Those that wait in one line.
use Rattle.std.specs.Prelude.{ℕ, ◌+◌, Bool, List, length, Option, Some, None, position, remove}
use Rattle.lat_queue.specs.declared.key.Key.{Key}
use Rattle.lat_queue.specs.declared.entry.Waiter.{Waiter}
use Rattle.lat_queue.specs.KeyHash.{one_key}

abbrev pub has_key : Key → Waiter → Bool
has_key k w = one_key k w.key

abbrev pub place_at : ℕ → Option ℕ → ℕ
place_at length None = length
place_at length (Some i) = i + 1

-- the place of a key, from 1 on
abbrev pub place_of : Key → List Waiter → ℕ
place_of k ws = place_at (length ws) (position (has_key k) ws)

abbrev pub without_at : List Waiter → Option ℕ → List Waiter
without_at ws None = ws
without_at ws (Some i) = remove ws i

-- the line without the key
abbrev pub without : Key → List Waiter → List Waiter
without k ws = without_at ws (position (has_key k) ws)
