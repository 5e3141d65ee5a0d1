use Rattle.std.proofs.Common.{◌∙◌, rules, tests}
use Rattle.std.proofs.lemmas.Iterator.{YieldsList-from_slice}
use Rattle.std.proofs.lemmas.Iterator.Search.{any_from_yields_List}
use Rattle.lat_trace.specs.Fates.{delivers}
use Rattle.lat_draw.proofs.Coming.{any_delivers}
use Rattle.lat_draw.proofs.events.came_before.Goals as goal

pub returns : goal.returns
returns c =
    any_from_yields_List (delivers c.args.frame) _ _ _ c.any.ensures.ran (YieldsList-from_slice c.args.events.now cc) (λ x b q k. search (rules, tests))
    ∙ any_delivers c.args.frame c.args.events.now
