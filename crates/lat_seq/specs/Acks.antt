-- What an acknowledgement says, and what is known after it.
use Rattle.std.specs.Prelude.{ℕ, ◌+◌, ◌-◌, cond, nat_lt, nat_le}
use Rattle.lat_seq.specs.declared.sending.AckFact.{AckFact}
use Rattle.lat_seq.specs.declared.sending.AckFact.TheVariants.{New, Old, Unsent}

-- the number a, where so many messages were sent and so many are known to be taken
abbrev pub by_numbers : (sent known a : ℕ) → AckFact
by_numbers sent known a = cond (nat_lt sent a) Unsent (cond (nat_lt known a) (New (a - known)) Old)

-- a field that lies this far ahead of the last known one, where so many messages are unacknowledged
abbrev pub by_distance : (half unacknowledged ahead : ℕ) → AckFact
by_distance half unacknowledged ahead =
    cond (nat_le half ahead) Old (cond (nat_lt unacknowledged ahead) Unsent (cond (nat_lt 0 ahead) (New ahead) Old))

abbrev pub known_after : ℕ → AckFact → ℕ
known_after known (New d) = known + d
known_after known Old = known
known_after known Unsent = known
