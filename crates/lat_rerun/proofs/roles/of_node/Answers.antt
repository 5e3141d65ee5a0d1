use Rattle.std.proofs.Common.{ap, ◌∙◌, string_bytes}
use Rattle.lat_machines.specs.node.Node.{open_node}
use Rattle.lat_node.specs.Looks as node_looks
use Rattle.lat_node.specs.Stands as nodes
use Rattle.lat_rerun.specs.Reruns.{told}
use Rattle.lat_rerun.proofs.Opened.{told_of_opened}
use Rattle.lat_rerun.proofs.Ruleless.{told_alike}
use Rattle.lat_rerun.proofs.roles.of_node.Goals as goal

pub returns : goal.returns
returns c =
    let k = c.in_ok-core.core in
    told_of_opened (λ r. (r.0, string_bytes r.1)) nodes.IsMachine
    (λ m. told nodes.next nodes.answered node_looks.look_of m c.args.config.now.lines c.args.first c.args.entries.now) c.told.result k (nodes.opening k) _
    c.in_ok-core.ensures.stands
    (told_alike (nodes.opening k) c.args.config.now.lines c.args.first c.args.entries.now
    ∙ ap (λ config. told nodes.next nodes.answered node_looks.look_of (record { config = config; rule = tt {0}; state = open_node config }) c.args.config.now.lines c.args.first c.args.entries.now)
    c.in_ok-core.ensures.config.0)
    c.told.ensures
