use Rattle.std.proofs.Common.{◌≡◌, ◌∙◌, ap, rules, ℕ, Bool, List, map, filter, nat_lt, slice_get}
use Rattle.std.specs.Option.{option_map, option_copied}
use Rattle.std.proofs.lemmas.Iterator.Consumers.{YieldsList-at, YieldsList-from_filter, YieldsList-from_rest, nth_from_yields_List}
use Rattle.std.proofs.lemmas.Option.{slice_get-map}
use borrow.Author.Tests.{tests}
use Rattle.lat_dir.specs.declared.node.Node.{Node}
use Rattle.lat_dir.specs.Words.{Nodes}
use Rattle.lat_dir.specs.Looks.{live_at}
use Rattle.lat_dir.proofs.Lists.{filter_map_is}
use Rattle.lat_dir.proofs.nodes.Nodes.live_at.Goals as goal

pub returns : goal.returns
returns c =
    let entries : Nodes = c.self.inside.nodes.entries in
    let lives : Node → Bool = λ n. nat_lt c.args.now n.until in
    let found : option_copied c.nth.result ≡ slice_get (filter lives (map (λ e. e.1) entries)) c.args.at =
    nth_from_yields_List c.nth.result c.nth.new.self c.args.at c.nth.ensures.ran
    (YieldsList-from_filter _ lives (YieldsList-at c.filter-living.ensures.source (YieldsList-from_rest (map (λ e. e.1) entries) c.values.ensures.rest)) c.filter-living.ensures.closure (λ x b q k. search (rules, tests))) in
    found
    ∙ ap (λ ns. slice_get ns c.args.at) (filter_map_is lives (λ (e : List ℕ × Node). e.1) entries)
    ∙ slice_get-map (λ (e : List ℕ × Node). e.1) (filter (λ (e : List ℕ × Node). lives e.1) entries) c.args.at
    ∙ ap (λ ns. option_map (λ (e : List ℕ × Node). e.1) (live_at c.args.now ns c.args.at)) c.self.view_is
