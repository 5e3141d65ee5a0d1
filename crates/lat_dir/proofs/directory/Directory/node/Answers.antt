use Rattle.std.proofs.Common.{ap, ◌∙◌}
use Rattle.std.specs.Option.{option_map}
use Rattle.lat_dir.specs.Looks.{live_at, node_shown}
use Rattle.lat_dir.proofs.Told.{node_right}
use Rattle.lat_dir.proofs.directory.Directory.node.Goals as goal

pub returns : goal.returns
returns c = λ h stands.
    c.look.ensures
    ∙ ap (λ k. option_map (λ e. node_shown e.1) (live_at c.args.now k.nodes c.args.at)) c.self.view_is
    ∙ node_right c.args.now c.args.at c.args.self.now h c.requires stands
