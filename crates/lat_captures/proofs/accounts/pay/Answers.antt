use Rattle.std.proofs.Common.{rules}
use Rattle.lat_captures.proofs.accounts.pay.Goals as goal

pub returns : goal.returns
returns c = search rules
