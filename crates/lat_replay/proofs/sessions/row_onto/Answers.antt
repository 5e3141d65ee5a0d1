use Rattle.std.proofs.Common.{sym}
use Rattle.lat_wire.specs.report.Rows.{row_in}
use Rattle.lat_laws.specs.tales.Reported.{server_figures, node_figures}
use Rattle.lat_replay.specs.Rows.{figures_shown}
use Rattle.lat_replay.proofs.Telling.{row_is}
use Rattle.lat_replay.proofs.sessions.row_onto.Goals as goal

pub returns : goal.returns
returns g c = λ w k r st at sh.
    row_is w k c.args.place r (row_in c.session_row.result) (figures_shown c.in_ok-server.server) (figures_shown c.in_ok-node.node) _ _
    c.in_ok-session_onto.ensures
    (c.session_row.ensures r sh)
    (c.in_ok-server.ensures (server_figures w k c.args.place r) (c.server_figures.ensures w k r st (sym sh.line) sh.server))
    (c.in_ok-node.ensures (node_figures w k c.args.place r) (c.node_figures.ensures w k r st at sh.node_line sh.node))
