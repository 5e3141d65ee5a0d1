use Rattle.std.proofs.Common.{◌≡◌, ◌++◌, string_bytes, take}
use Rattle.std.specs.List.{flat_map}
use Rattle.lat_record.specs.OpeningText.{offer_line}
use Rattle.lat_record.proofs.opening_text.offers_onto.Given as goal

abbrev pub invariant-loop-offer : goal.invariant-loop-offer
invariant-loop-offer l = string_bytes l.text ≡ string_bytes l.initial.text ++ flat_map offer_line (take l.offer-index l.offers)
