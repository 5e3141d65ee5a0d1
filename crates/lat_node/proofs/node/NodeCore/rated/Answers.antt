use Rattle.std.proofs.Common.{◌≡◌, ◌+◌, sym, ap, ◌∙◌, take, [], ◌∷◌, ◌++◌, arith}
use Rattle.std.proofs.lemmas.List.{take_more}
use Rattle.std.proofs.lemmas.Grind.{common_steps}
use Rattle.lat_node.proofs.AnnounceLemmas.{services_more, rates_more}
use Rattle.lat_node.proofs.node.NodeCore.rated.Goals as goal

pub loop-place-preserved : goal.loop-place-preserved
loop-place-preserved g c =
    let ss = c.loop-place.services in
    let s = c.in_ok-service.field-0 in
    let ns = c.as_slice-names.result.now in
    let i = c.loop-place.place in
    let n = c.index-names-place.result in
    let more : take (i + 1) ns ≡ take i ns ++ n ∷ [] = take_more ns i n c.loop-place-test.true ∙ ap (λ m. take i ns ++ m ∷ []) (sym c.index-names-place.is) in
    record {
      names = services_more (take i ns) (take (i + 1) ns) ss c.push.new.self n s more c.in_ok-push.ensures.ok c.loop-place.invariant.names c.in_ok-service.ensures.shown;
      rates = rates_more (g.H.RatingRule.may c.args.self.now.rule) c.args.used c.args.self.now.lines.lines i ss c.push.new.self s c.in_ok-push.ensures.ok c.loop-place.invariant.rates c.in_ok-service.ensures.rating;
    }

pub returns-clause-names : goal.returns-clause-names
returns-clause-names c = grind (arith, common_steps)
