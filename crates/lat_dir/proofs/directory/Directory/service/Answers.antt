use Rattle.std.proofs.Common.{ap, ◌∙◌}
use Rattle.lat_dir.specs.Looks.{live_at, service_at}
use Rattle.lat_dir.proofs.Told.{service_right}
use Rattle.lat_dir.proofs.directory.Directory.service.Goals as goal

pub returns : goal.returns
returns c = λ h stands.
    c.service.ensures
    ∙ ap (λ k. service_at (live_at c.args.now k.nodes c.args.node) c.args.at) c.self.view_is
    ∙ service_right c.args.now c.args.node c.args.at c.args.self.now h c.requires stands
