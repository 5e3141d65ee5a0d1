use Rattle.std.proofs.Common.{rules, ◌∙◌}
use Rattle.std.specs.Prelude.{◌==◌}
use Rattle.std.proofs.lemmas.Iterator.{YieldsList-from_slice}
use Rattle.std.proofs.lemmas.Iterator.Search.{find_from_yields_List}
use Rattle.lat_words.specs.declared.settings.Offer.{Offer}
use Rattle.lat_live.proofs.lines.offer_of.Goals as goal

pub returns : goal.returns
returns c = c.copied.ensures ∙ find_from_yields_List (λ (o : Offer). o.line == c.args.line) _ _ _ c.find.ensures.ran (YieldsList-from_slice c.args.offers.now cc) (λ x b q k. search rules)
