-- What a fact says.
use Rattle.std.specs.Prelude.{ℕ, ◌==◌, Bool, true, false, Option, Some, None}
use Rattle.lat_mind.specs.declared.fact.Fact.{Fact}
use Rattle.lat_mind.specs.declared.fact.Fact.TheVariants as facts

-- how many items a write wrote
abbrev pub wrote_of : Fact → Option ℕ
wrote_of (facts.Written count) = Some count
wrote_of _ = None

-- nothing happened
abbrev pub is_quiet : Fact → Bool
is_quiet facts.Quiet = true
is_quiet facts.Rested = true
is_quiet facts.Unconnected = true
is_quiet facts.Away = true
is_quiet facts.Lacking = true
is_quiet (facts.Written count) = count == 0
is_quiet _ = false

abbrev pub is_ended : Fact → Bool
is_ended facts.Ended = true
is_ended _ = false

abbrev pub is_failed : Fact → Bool
is_failed facts.Failed = true
is_failed _ = false

abbrev pub is_avoided : Fact → Bool
is_avoided facts.Avoided = true
is_avoided _ = false

abbrev pub is_attended : Fact → Bool
is_attended facts.Attended = true
is_attended _ = false
