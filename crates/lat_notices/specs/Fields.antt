-- Reading the fields that notices alone have.
use Rattle.std.specs.Prelude.{ℕ, Bool, List, length, Result, Ok, nat_le, nat_lt, ◌==◌}
use Rattle.lat_base.specs.declared.field.Bad.{Bad}
use Rattle.lat_base.specs.declared.field.Field.{Field}
use Rattle.lat_base.specs.declared.field.Field.TheVariants as fields
use Rattle.lat_fields.specs.Reading.{◌>>=◌, wanted, known, byte_at, number_at, counted_at}
use Rattle.lat_notices.specs.declared.notice.Action.{Action}
use Rattle.lat_notices.specs.declared.notice.Outcome.{Outcome}
use Rattle.lat_notices.specs.Outcomes.{action_of, outcome_of, place_fits, placed}

abbrev pub is_version : ℕ → Bool
is_version version = version == 5

-- a timer isn't 0
abbrev pub is_timer : ℕ → Bool
is_timer seconds = nat_lt 0 seconds

-- one byte that is right
unfoldable pub byte_for : (ℕ → Bool) → Field → ℕ → List ℕ → Result (ℕ × ℕ × List ℕ) Bad
byte_for right field place bytes = do
  b ← byte_at field place place bytes
  w ← wanted (right b.0) field place
  Ok b

-- a mask of groups: a counted text of at most 32 bytes
unfoldable pub groups_at : ℕ → List ℕ → Result (List ℕ × ℕ × List ℕ) Bad
groups_at place bytes = do
  mask ← counted_at fields.Groups place place bytes
  w ← wanted (nat_le (length mask.0) 32) fields.Groups place
  Ok mask

unfoldable pub action_at : ℕ → List ℕ → Result (Action × ℕ × List ℕ) Bad
action_at place bytes = do
  number ← byte_at fields.Action place place bytes
  action ← known (action_of number.0) fields.Action place
  Ok (action, number.1, number.2)

-- an outcome with the place in the queue, which is tied to it
unfoldable pub outcome_at : ℕ → List ℕ → Result (Outcome × ℕ × List ℕ) Bad
outcome_at place bytes = do
  number ← byte_at fields.Outcome place place bytes
  outcome ← known (outcome_of number.0) fields.Outcome place
  queue ← number_at fields.Place number.1 number.2
  w ← wanted (place_fits outcome queue.0) fields.Place number.1
  Ok (placed outcome queue.0, queue.1, queue.2)
