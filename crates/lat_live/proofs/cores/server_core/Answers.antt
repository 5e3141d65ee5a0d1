use Rattle.std.proofs.Common.{ap, ◌∙◌, rules}
use Rattle.std.specs.Prelude.{map}
use Rattle.lat_live.specs.Openings.{offer_as}
use Rattle.lat_live.proofs.Made.{ok_more, server_made}
use Rattle.lat_live.proofs.Ruled.{are_offers}
use Rattle.lat_live.proofs.cores.server_core.Goals as goal

pub make-requires : goal.make-requires
make-requires c =
    let seats = c.requires.settings.seats in
    record {
      lines = (seats.some, c.requires.lines);
      offers = are_offers c.args.settings.now.seats.lines c.args.settings.now.seats.offers.items c.in_ok-offers_of.field-0 seats.offers
          (c.in_ok-offers_of.ensures ∙ ap (map offer_as) c.as_slice.ensures.value);
      timing = c.timing_of.ensures.valid;
      first = (c.requires.first, search rules);
    }

pub returns-clause-config : goal.returns-clause-config
returns-clause-config c =
    ok_more c.make.result _ _ (λ k is. is ∙ server_made c.args.settings.now c.args.first c.in_ok-offers_of.field-0 c.heard_groups.result c.timing_of.result
    (c.in_ok-offers_of.ensures ∙ ap (map offer_as) c.as_slice.ensures.value) c.heard_groups.ensures c.timing_of.ensures.shown) c.make.ensures.config
