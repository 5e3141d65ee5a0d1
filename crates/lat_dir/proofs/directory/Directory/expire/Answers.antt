use Rattle.std.proofs.Common.{sym, ap, subst, ◌∙◌}
use Rattle.lat_dir.specs.Stands.{Stands, at_moment}
use Rattle.lat_dir.proofs.Standing.{at_moment_stands}
use Rattle.lat_dir.proofs.directory.Directory.expire.Goals as goal

pub returns-clause-stands : goal.returns-clause-stands
returns-clause-stands c h stands =
    let is = ap (λ ns. record { groups = c.self.inside.groups; nodes = ns; moment = c.args.now }) c.expire.ensures ∙ ap (at_moment c.args.now) c.self.view_is in
    subst (λ k. Stands k h) (sym is) (at_moment_stands c.args.now c.args.self.now h c.requires stands)
