-- Two cells, and the world of their histories.
use Rattle.std.proofs.Common.{◌≡◌, List, sym, ap, ◌∙◌}
use Rattle.lat_past.specs.declared.past.Past.{Past}
use Rattle.lat_history.specs.History.{run_of}
use Rattle.lat_machines.specs.server.Server.{open_server}
use Rattle.lat_machines.specs.node.Node.{Node, open_node}
use Rattle.lat_machines.specs.world.Machines.{Setups}
use Rattle.lat_machines.specs.world.Histories.{node_part, server_run, RatedEvent, node_run}
use Rattle.lat_machines.proofs.runs.Stories.{stories}
use Rattle.lat_server.specs.Stands as server
use Rattle.lat_node.specs.Stands as node
use Rattle.lat_runs.specs.Runs.{IsRated}
use Rattle.lat_runs.specs.Laws.{server_of, node_of, PassInAWorld, CellsAreAWorld}
use Rattle.lat_runs.proofs.Servers as servers
use Rattle.lat_runs.proofs.Nodes as nodes

-- of whatever is behind its history where the node's run leads
passes : (its_state : Setups → List Past → Node) → ((u : Setups) (theirs : List Past) (rated : List RatedEvent) → IsRated rated theirs → its_state u theirs ≡ node_run u.node rated (open_node u.node)) → PassInAWorld its_state
passes its_state leads u order ours theirs fit mine its honest =
    let w = stories u order fit honest in
    record {
      server_state = ap (λ (m : server.Machine). m.state) (servers.behind (server_of u) ours) ∙ ap (λ es. server_run u.server es (open_server u.server)) (sym mine) ∙ sym w.server;
      node_state = leads u theirs (node_part order) its ∙ sym w.node;
      safe = w.safe;
    }

pub world : {H : Type 0} → CellsAreAWorld H
world {H = H} rule =
    passes (λ u theirs. (run_of node.next (node_of u rule) theirs).state)
    (λ u theirs rated its. ap (λ (m : node.Machine H). m.state) (nodes.behind (node_of u rule) theirs rated its))
