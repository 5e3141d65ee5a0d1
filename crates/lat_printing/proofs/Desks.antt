-- A desk goes as its tale.
use Rattle.std.proofs.Common.{◌≡◌, refl}
use Rattle.lat_jobs.specs.declared.fact.Fact.{Fact}
use Rattle.lat_jobs.specs.declared.fact.Fact.TheVariants as facts
use Rattle.lat_jobs.specs.declared.phase.Phase.{Phase}
use Rattle.lat_jobs.specs.Runs.{Tale, Turn, tale_at, tale_next}
use Rattle.lat_printing.specs.Desks.{desk_in, desk_told}

by_fact : (t : Tale) (p : Phase) (x : Turn) (f : Fact) → desk_in (tale_at t p x f) ≡ desk_told (desk_in t) x.look f x.bytes x.items
by_fact t p x (facts.Asked n) = refl
by_fact t p x facts.Unasked = refl
by_fact t p x facts.Repeated = refl
by_fact t p x facts.Cancelled = refl
by_fact t p x facts.Lost = refl
by_fact t p x facts.Joined = refl
by_fact t p x facts.Quiet = refl
by_fact t p x (facts.Read n) = refl
by_fact t p x facts.Ended = refl
by_fact t p x facts.Failed = refl
by_fact t p x (facts.Put n) = refl
by_fact t p x (facts.Took n) = refl
by_fact t p x (facts.Written n) = refl
by_fact t p x facts.Closed = refl
by_fact t p x facts.Rested = refl
by_fact t p x facts.HungUp = refl
by_fact t p x facts.Reset = refl
by_fact t p x facts.Lacking = refl

pub desks_go_as_tales : (t : Tale) (x : Turn) → desk_in (tale_next t x) ≡ desk_told (desk_in t) x.look x.fact x.bytes x.items
desks_go_as_tales t x = by_fact t t.mind.phase x x.fact
