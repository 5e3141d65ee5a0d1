-- What a fact says.
use Rattle.std.specs.Prelude.{◌==◌, Bool, true, false}
use Rattle.lat_jobs.specs.declared.fact.Fact.{Fact}
use Rattle.lat_jobs.specs.declared.fact.Fact.TheVariants as facts

-- nothing happened
abbrev pub is_quiet : Fact → Bool
is_quiet facts.Quiet = true
is_quiet facts.Rested = true
is_quiet facts.Lacking = true
is_quiet (facts.Written count) = count == 0
is_quiet _ = false

abbrev pub is_read : Fact → Bool
is_read (facts.Read count) = true
is_read _ = false

abbrev pub is_ended : Fact → Bool
is_ended facts.Ended = true
is_ended _ = false

abbrev pub is_failed : Fact → Bool
is_failed facts.Failed = true
is_failed _ = false

abbrev pub is_closed : Fact → Bool
is_closed facts.Closed = true
is_closed _ = false

-- a write was tried
abbrev pub is_write : Fact → Bool
is_write (facts.Written count) = true
is_write facts.Failed = true
is_write _ = false
