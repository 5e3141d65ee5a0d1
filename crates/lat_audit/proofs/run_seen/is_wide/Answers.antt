use Rattle.std.proofs.Common.{rules}
use Rattle.lat_audit.proofs.run_seen.is_wide.Goals as goal

pub returns-in-len1-up : goal.returns-in-len1-up
returns-in-len1-up c = search rules
