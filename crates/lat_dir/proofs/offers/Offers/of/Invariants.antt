use Rattle.std.proofs.Common.{◌≡◌, map, take}
use Rattle.lat_dir.specs.Words.{offer_of}
use Rattle.lat_dir.proofs.offers.Offers.of.Given as goal

abbrev pub invariant-loop-service : goal.invariant-loop-service
invariant-loop-service l = l.offers.items ≡ map offer_of (take l.service-index l.services)
