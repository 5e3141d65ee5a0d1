use Rattle.lat_text.proofs.LineEnds.{search_is_position}
use Rattle.lat_text.proofs.lines.line_end.Goals as goal

pub returns : goal.returns
returns c = search_is_position c.args.text.now c.memchr.result c.memchr.ensures
