use Rattle.std.proofs.Common.{◌≡◌, take}
use Rattle.lat_server.proofs.server.copy.Given as goal

abbrev pub invariant-loop-offer : goal.invariant-loop-offer
invariant-loop-offer l = l.copied ≡ take l.offer-index l.offers
