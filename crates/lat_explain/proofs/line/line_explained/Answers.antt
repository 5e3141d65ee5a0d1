use Rattle.std.proofs.Common.{string_bytes}
use Rattle.lat_explain.specs.Walks.{shown}
use Rattle.lat_explain.proofs.ColumnLaws.{told_column}
use Rattle.lat_explain.proofs.line.line_explained.Goals as goal

pub returns-clause-column : goal.returns-clause-column
returns-clause-column c =
    told_column string_bytes c.walk_explained.result c.args.input c.args.before c.args.text.now c.passed-passed.result c.text_behind-rest.result.now (shown c.in_ok-walk.walk) c.passed-passed.ensures.value
    c.text_behind-rest.ensures.value c.in_ok-walk.ensures.walk c.in_ok-walk.ensures.line c.walk_explained.ensures
