use Rattle.std.proofs.Common.{rules}
use Rattle.lat_text.proofs.flag.flag_text.Goals as goal

pub returns-then-flag : goal.returns-then-flag
returns-then-flag c = search rules
