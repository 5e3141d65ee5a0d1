use Rattle.std.proofs.Common.{◌≡◌, ◌++◌, string_bytes, take}
use Rattle.std.specs.List.{flat_map}
use Rattle.lat_record.specs.OpeningText.{rate_line}
use Rattle.lat_record.proofs.opening_text.rates_onto.Given as goal

abbrev pub invariant-loop-rate : goal.invariant-loop-rate
invariant-loop-rate l = string_bytes l.text ≡ string_bytes l.initial.text ++ flat_map rate_line (take l.rate-index l.rates)
