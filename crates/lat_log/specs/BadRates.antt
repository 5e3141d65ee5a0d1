-- How often bad payloads are told of.
use Rattle.std.specs.Prelude.{ℕ, ◌+◌, ◌-◌, ◌^◌, min, Bool, Option, Some, None, nat_le, nat_lt, ◌==◌, if◌then◌else◌}
use Rattle.lat_log.specs.declared.bad_rate.BadRate.{BadRate}
use Rattle.lat_log.specs.declared.bad_rate.BadTold.{BadTold}
use Rattle.lat_log.specs.declared.entry.Entry.{Entry}
use Rattle.lat_log.specs.declared.entry.Entry.TheVariants.{MoreBad}

abbrev pub blank : BadRate
blank = record { since = 0; told = 0; untold = 0 }

-- the second that began with the first bad payload is over
abbrev pub is_over : BadRate → ℕ → Bool
is_over r now = nat_le 1000 (now - r.since)

-- the line for so many, if there are any
abbrev pub counted : ℕ → Option Entry
counted untold = if untold == 0 then None else Some (MoreBad untold)

-- ten in a second have a line of their own, and the number of the others one behind the second
abbrev pub told_of : BadRate → ℕ → Entry → BadTold
told_of r now entry =
    if is_over r now then record { before = counted r.untold; own = Some entry }
    else if nat_lt r.told 10 then record { before = None; own = Some entry }
    else record { before = None; own = None }

abbrev pub told_after : BadRate → ℕ → BadRate
told_after r now =
    if is_over r now then record { since = now; told = 1; untold = 0 }
    else if nat_lt r.told 10 then record r { told = r.told + 1 }
    else record r { untold = min (r.untold + 1) (2 ^ 64 - 1) }

-- the line for those without one, once their second is over
abbrev pub due : BadRate → ℕ → Option Entry
due r now = if is_over r now then counted r.untold else None

abbrev pub due_next : BadRate → ℕ → BadRate
due_next r now = if is_over r now then record r { untold = 0 } else r
