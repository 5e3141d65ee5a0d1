use Rattle.std.proofs.Common.{◌≡◌, ◌+◌, ◌-◌, ◌++◌, string_bytes}
use Rattle.lat_explain.specs.Awaited.{offer_forms}
use Rattle.lat_explain.proofs.awaited.offers_onto.Given as goal

abbrev pub invariant-loop-place : goal.invariant-loop-place
invariant-loop-place l =
    string_bytes l.initial.table ++ offer_forms l.offers l.lines 1 ≡ string_bytes l.table ++ offer_forms l.offers (l.lines - l.place) (l.place + 1)
