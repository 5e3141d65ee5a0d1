use Rattle.std.proofs.Common.{◌≡◌, false, sym, subst, rules}
use Rattle.std.specs.Prelude.{◌==◌}
use Rattle.std.specs.List.{list_any}
use Rattle.lat_words.specs.Within.{AreOffers}
use Rattle.lat_words.specs.declared.settings.Offer.{Offer}
use Rattle.lat_words.proofs.OneMoreOffer.{one_more}
use Rattle.lat_words.proofs.offers.offered_by.Goals as goal

pub returns-clause-offers : goal.returns-clause-offers
returns-clause-offers c = λ lines are line.
    let other : list_any (λ (o : Offer). o.line == c.args.offer.line) c.args.got.items ≡ false = search rules in
    subst (AreOffers lines) (sym c.push.ensures.items) (one_more lines c.args.got.items c.args.offer are line other)
