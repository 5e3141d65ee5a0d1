use Rattle.std.proofs.Common.{◌∙◌}
use Rattle.lat_replay.specs.Rows.{figures_shown}
use Rattle.lat_replay.proofs.Telling.{told_is}
use Rattle.lat_replay.proofs.sessions.session_row.Goals as goal

pub returns : goal.returns
returns c = λ r s.
    told_is r (figures_shown c.args.server) (figures_shown c.args.node) c.args.row.now.line c.args.row.now.node_line
    c.as_slice.result.now c.as_slice-2.result.now c.as_slice-3.result.now c.as_slice-4.result.now s.line s.node_line
    (c.as_slice.ensures.value ∙ s.put_up) (c.as_slice-2.ensures.value ∙ s.taken_up) (c.as_slice-3.ensures.value ∙ s.put_down) (c.as_slice-4.ensures.value ∙ s.taken_down)
