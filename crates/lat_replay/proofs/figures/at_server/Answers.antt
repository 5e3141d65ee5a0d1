use Rattle.std.proofs.Common.{sym, ap, ◌∙◌}
use Rattle.lat_machines.specs.cores.Lines.{line_exists}
use Rattle.lat_replay.proofs.Newest.{is_line, not_missing}
use Rattle.lat_replay.proofs.figures.at_server.Goals as goal

pub book-requires : goal.book-requires
book-requires c = is_line c.args.server.now.lines.lines c.args.line (sym (c.exists-there.ensures ∙ ap (λ z. line_exists z c.args.line) c.lines.ensures) ∙ c.if-there.true)

pub returns-then-there : goal.returns-then-there
returns-then-there c = λ s st h. c.figures_by.ensures s.core c.args.line (c.book.ensures s st) h

pub returns-else-there : goal.returns-else-there
returns-else-there c = λ s st h. absurd (not_missing c.args.server.now.lines.lines c.args.line s.core c.exists-there.result st.lines.seated.each h (c.exists-there.ensures ∙ ap (λ z. line_exists z c.args.line) c.lines.ensures) c.if-there.false)
