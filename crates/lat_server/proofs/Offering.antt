-- The services that a server offers, by their places.
use Rattle.std.proofs.Common.{◌≡◌, ℕ, List, zero, suc, [], ◌∷◌, map, refl, ◌∙◌, ap, sym, slice_get}
use Rattle.std.specs.Option.{option_map}
use Rattle.lat_machines.specs.server.Lists.{offered_at}
use Rattle.lat_server.specs.declared.config.Offer.{Offer}
use Rattle.lat_server.specs.Config.{offer_shown}
use Rattle.lat_server.specs.Kept.{Kept}
use Rattle.lat_server.specs.Stands.{Machine, IsMachine}

by_place : (offers : List Offer) (at : ℕ) → option_map (λ (o : Offer). o.service) (slice_get offers at) ≡ slice_get (map (λ o. o.service) (map offer_shown offers)) at
by_place [] at = refl
by_place (o ∷ offers) zero = refl
by_place (o ∷ offers) (suc at) = by_place offers at

pub service_right : (k : Kept) (m : Machine) (at : ℕ) → IsMachine k m → option_map (λ (o : Offer). o.service) (slice_get k.offers at) ≡ offered_at m.config at
service_right k m at is = by_place k.offers at ∙ ap (λ config. offered_at config at) (sym is.config)
