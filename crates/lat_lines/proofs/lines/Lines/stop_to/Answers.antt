use Rattle.std.proofs.Common.{sym, ap, ◌∙◌}
use Rattle.lat_lines.specs.Kept.{Kept, side_of}
use Rattle.lat_lines.proofs.circuits.Strays.{stranger_adds}
use Rattle.lat_lines.proofs.lines.Lines.stop_to.Goals as goal

pub returns-then-is_stranger : goal.returns-then-is_stranger
returns-then-is_stranger c = λ d before st.
    stranger_adds (side_of c.args.self.now) d c.args.prompt c.is_server-server.result c.args.from c.args.to c.args.source c.stray_stop.result before
    (c.if-prompt.true, sym (c.is_stranger.ensures d st) ∙ c.if-is_stranger.true)
    (c.is_server-server.ensures ∙ ap (λ (z : Kept). z.circuits.server) c.self.view_is) c.stray_stop.ensures.value c.stray_stop.ensures.formed
