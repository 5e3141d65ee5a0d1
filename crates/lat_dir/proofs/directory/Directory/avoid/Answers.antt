use Rattle.std.proofs.Common.{sym, ap, subst, ◌∙◌}
use Rattle.lat_machines.specs.values.Addresses.{address}
use Rattle.lat_machines.specs.server.Directory.{avoid}
use Rattle.lat_dir.specs.Stands.{Stands}
use Rattle.lat_dir.specs.Steps.{avoided}
use Rattle.lat_dir.proofs.Standing.{avoided_stands}
use Rattle.lat_dir.proofs.directory.Directory.avoid.Goals as goal

pub returns-clause-stands : goal.returns-clause-stands
returns-clause-stands c h stands =
    let from = address c.args.from.0 in
    let is = ap (λ ns. record { groups = c.self.inside.groups; nodes = ns; moment = c.self.inside.moment }) c.avoid.ensures ∙ ap (avoided from) c.self.view_is in
    subst (λ k. Stands k (avoid from h)) (sym is) (avoided_stands from c.args.self.now h stands)
