use Rattle.std.proofs.Common.{◌≡◌, map, take}
use Rattle.lat_live.specs.Openings.{offer_as}
use Rattle.lat_live.proofs.cores.offers_of.Given as goal

abbrev pub invariant-loop-offer : goal.invariant-loop-offer
invariant-loop-offer l = l.all ≡ map offer_as (take l.offer-index l.offers)
