use Rattle.std.proofs.Common.{sym, ◌∙◌}
use Rattle.lat_text.proofs.LineEnds.{line_found}
use Rattle.lat_text.proofs.lines.first_line.Goals as goal

pub returns-clause-found : goal.returns-clause-found
returns-clause-found c =
    line_found c.in_ok-end.end c.args.text.now c.split_at.result.0.now c.split_at-2.result.1.now (sym c.line_end.ensures ∙ c.in_ok-end.was) c.split_at.ensures.front c.split_at-2.ensures.back
