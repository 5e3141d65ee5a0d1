use Rattle.std.proofs.Common.{◌≡◌, length, map, take}
use Rattle.lat_server.specs.declared.config.Offer.{Offer}
use Rattle.lat_server.proofs.server.services.Given as goal

abbrev pub invariant-loop-offer : goal.invariant-loop-offer
invariant-loop-offer l = record {
  services : l.services ≡ map (λ (o : Offer). o.service) (take l.offer-index l.offers);
  count : length l.services ≡ l.offer-index;
}
