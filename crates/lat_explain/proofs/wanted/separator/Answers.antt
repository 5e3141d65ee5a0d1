use Rattle.std.proofs.Common.{◌≡◌, length, false, rules}
use Rattle.std.specs.Prelude.{◌==◌}
use Rattle.lat_explain.proofs.Behinds.{comma}
use Rattle.lat_explain.proofs.wanted.separator.Goals as goal

pub returns-else-is_empty : goal.returns-else-is_empty
returns-else-is_empty c =
    let some : (length c.args.more.now == 0) ≡ false = search rules in
    comma c.args.more.now some
