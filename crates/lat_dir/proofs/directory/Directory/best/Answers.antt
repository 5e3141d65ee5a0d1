use Rattle.std.proofs.Common.{sym, ap, subst, ◌<◌, ◌∙◌}
use Rattle.std.specs.Prelude.{option_map, IfSome}
use Rattle.lat_dir.specs.Words.{best_shown}
use Rattle.lat_dir.proofs.Choice.{chosen_of, best_is, chosen_above}
use Rattle.lat_dir.proofs.directory.Directory.best.Goals as goal

pub returns-clause-best : goal.returns-clause-best
returns-clause-best c h stands =
    let is = c.best.ensures ∙ ap (λ k. chosen_of c.folded.result c.args.now k.nodes) c.self.view_is ∙ ap (λ key. chosen_of key c.args.now c.args.self.now.nodes) c.folded.ensures in
    ap (option_map best_shown) is ∙ best_is c.args.service.now c.args.now c.args.self.now h stands c.requires

pub returns-clause-above : goal.returns-clause-above
returns-clause-above c = subst (λ r. IfSome r (λ b. 0 < b.rating)) (sym c.best.ensures) (chosen_above c.folded.result c.args.now c.self.inside.nodes)
