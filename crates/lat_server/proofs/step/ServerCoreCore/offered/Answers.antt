use Rattle.std.proofs.Common.{◌∙◌, ap, slice_get}
use Rattle.std.specs.Option.{option_map}
use Rattle.lat_server.specs.declared.config.Offer.{Offer}
use Rattle.lat_server.specs.Kept.{Kept}
use Rattle.lat_server.proofs.Offering.{service_right}
use Rattle.lat_server.proofs.step.ServerCoreCore.offered.Goals as goal

pub returns : goal.returns
returns c = record {
  state = λ m is.
      c.service.ensures
      ∙ ap (λ (k : Kept). option_map (λ (o : Offer). o.service) (slice_get k.offers c.args.at)) c.self.view_is
      ∙ service_right c.args.self.now m c.args.at is;
}
