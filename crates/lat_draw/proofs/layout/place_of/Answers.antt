use Rattle.std.proofs.Common.{nat_lt, rules, tests, ◌∙◌}
use Rattle.std.proofs.lemmas.Iterator.{YieldsList-from_slice}
use Rattle.std.proofs.lemmas.Iterator.Search.{find_from_yields_List}
use Rattle.lat_draw.specs.declared.layout.Place.{Place}
use Rattle.lat_draw.proofs.layout.place_of.Goals as goal

pub returns : goal.returns
returns c = c.copied.ensures ∙ find_from_yields_List (λ (p : Place). nat_lt c.args.frame p.behind) _ _ _ c.find.ensures.ran (YieldsList-from_slice c.args.places.now cc) (λ x b q k. search (rules, tests))
